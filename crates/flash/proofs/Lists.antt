-- The laws of lists of commands: joining two, what the meanings do, what other blocks keep, and that a list of which nothing is refused is done or cut off.
use Rattle.std.proofs.Common.{◌≡◌, ℕ, true, false, eqb, ltb, List, [], ◌∷◌, ◌++◌, Ok, Err, Result, sym, refl, ap, ◌∙◌, subst, inl, inr, arith}
use Rattle.std.proofs.lemmas.Bool.{ne_eqb, lt-ltb}
use Rattle.flash.specs.declared.fault.FlashFault.{FlashFault}
use Rattle.flash.specs.State.{State, Memory}
use Rattle.flash.specs.Commands.{Command, program, erase, block_of, verdict, applied, done, Stopped}
use Rattle.flash.specs.Rules.{Model}
use Rattle.flash.specs.Lists.{Through, Cut, Given, applied_all, all_done, Interrupted, Ran, Tried, Takes, Taken, Spares}

ok≢err : {x : Unit {0}} {f : FlashFault} → ◌≡◌ {A = Result (Unit {0}) FlashFault} (Ok x) (Err f) → ⊥
ok≢err p = let z : ◌≡◌ {A = ℕ} 0 1 = cc in omega arith

module _ {F : Type 0} (model : Model F) where
  -- one list after another
  pub through_then : (xs ys : List Command) (x y z : F) → Through model xs x y → Through model ys y z → Through model (xs ++ ys) x z
  through_then [] ys x y z h g = subst (λ (u : F). Through model ys u z) h g
  through_then (c ∷ xs) ys x y z h g = (h.0, h.1, through_then xs ys h.0 y z h.2 g)

  pub cut_first : (xs ys : List Command) (x y : F) (f : FlashFault) → Cut model xs x f y → Cut model (xs ++ ys) x f y
  cut_first [] ys x y f h = absurd h
  cut_first (c ∷ xs) ys x y f (inl h) = inl h
  cut_first (c ∷ xs) ys x y f (inr h) = inr (h.0, h.1, cut_first xs ys h.0 y f h.2)

  pub cut_then : (xs ys : List Command) (x y z : F) (f : FlashFault) → Through model xs x y → Cut model ys y f z → Cut model (xs ++ ys) x f z
  cut_then [] ys x y z f h g = subst (λ (u : F). Cut model ys u f z) h g
  cut_then (c ∷ xs) ys x y z f h g = inr (h.0, h.1, cut_then xs ys h.0 y z f h.2 g)

  pub given_then : (xs ys : List Command) (x y z : F) (r : Result (Unit {0}) FlashFault) → Through model xs x y → Given model ys y r z → Given model (xs ++ ys) x r z
  given_then xs ys x y z (Ok _) h g = through_then xs ys x y z h g
  given_then xs ys x y z (Err f) h g = cut_then xs ys x y z f h g

  -- and one list taken apart again
  pub through_split : (xs ys : List Command) (x z : F) → Through model (xs ++ ys) x z → (y : F) × Through model xs x y × Through model ys y z
  through_split [] ys x z h = (x, refl, h)
  through_split (c ∷ xs) ys x z h = let r = through_split xs ys h.0 z h.2 in (r.0, (h.0, h.1, r.1), r.2)

  -- what becomes of the meaning
  pub through_means : (cs : List Command) (x y : F) → Through model cs x y → model.meaning y ≡ all_done cs (model.meaning x)
  through_means [] x y h = ap model.meaning h
  through_means (c ∷ cs) x y h = through_means cs h.0 y h.2 ∙ ap (all_done cs) h.1.1

  pub cut_means : (cs : List Command) (x y : F) (f : FlashFault) → Cut model cs x f y → Interrupted model.kind cs (model.meaning x) f (model.meaning y)
  cut_means [] x y f h = absurd h
  cut_means (c ∷ cs) x y f (inl h) = inl (h.0, h.1.1)
  cut_means (c ∷ cs) x y f (inr h) =
      inr (subst (λ (s : State). Interrupted model.kind cs s f (model.meaning y)) h.1.1 (cut_means cs h.0 y f h.2))

  pub given_means : (cs : List Command) (x y : F) (r : Result (Unit {0}) FlashFault) → Given model cs x r y → Ran model.kind cs (model.meaning x) r (model.meaning y)
  given_means cs x y (Ok _) h = through_means cs x y h
  given_means cs x y (Err f) h = cut_means cs x y f h

-- a command that is taken is not refused
pub takes_verdict : (k : ℕ) (c : Command) (s : State) → s.power ≡ true → Takes s.count c s.word → verdict k c s ≡ Ok tt
takes_verdict k (program b w v) s p h =
    let e₁ : ltb b s.count ≡ true = lt-ltb b s.count h.0 in
    let e₂ : ltb w 16 ≡ true = lt-ltb w 16 h.1 in
    rw (p, e₁, e₂, h.2)
takes_verdict k (erase b) s p h =
    let e₁ : ltb b s.count ≡ true = lt-ltb b s.count h in
    rw (p, e₁)

-- on a flash with power, a list of which no command is refused is done or cut off by a loss, and nothing else
pub tried_given : {F : Type 0} (model : Model F) (cs : List Command) (x y : F) (r : Result (Unit {0}) FlashFault)
    → (model.meaning x).power ≡ true → Taken (model.meaning x).count cs (model.meaning x).word → Tried model cs x r y → Given model cs x r y
tried_given model [] x y r p t h = rw h.0 h.1
tried_given {F} model (c ∷ cs) x y r p t (inl h) = onward r (tried_given model cs h.0 y r power taken h.2)
  where
    power : (model.meaning h.0).power ≡ true
    power = ap (λ (s : State). s.power) h.1.1 ∙ p

    taken : Taken (model.meaning h.0).count cs (model.meaning h.0).word
    taken = subst (λ (s : State). Taken s.count cs s.word) (sym h.1.1) t.1

    onward : (q : Result (Unit {0}) FlashFault) → Given model cs h.0 q y → Given model (c ∷ cs) x q y
    onward (Ok _) g = (h.0, h.1, g)
    onward (Err f) g = inr (h.0, h.1, g)
tried_given model (c ∷ cs) x y r p t (inr h) = rw h.1 (elim h.2 [
  | inl refused ↦ absurd (ok≢err (sym (takes_verdict model.kind c (model.meaning x) p t.0) ∙ refused.0))
  | inr lost ↦ inl lost
])

-- a command leaves the other blocks
pub applied_spares : (b w : ℕ) (c : Command) (m : Memory) → (block_of c ≡ b → ⊥) → applied c m b w ≡ m b w
applied_spares b w (program c x v) m ne = let e : eqb c b ≡ false = ne_eqb c b ne in rw e
applied_spares b w (erase c) m ne = let e : eqb c b ≡ false = ne_eqb c b ne in rw e

pub stopped_spares : (b w : ℕ) (c : Command) (s t : State) → (block_of c ≡ b → ⊥) → Stopped c s t → t.word b w ≡ s.word b w
stopped_spares b w (program c x v) s t ne h = let e : eqb c b ≡ false = ne_eqb c b ne in ap (λ (u : State). u.word b w) h.2 ∙ rw e
stopped_spares b w (erase c) s t ne h = let e : eqb c b ≡ false = ne_eqb c b ne in ap (λ (u : State). u.word b w) h.1 ∙ rw e

-- and so does a list, to its end or cut off
pub all_spares : (b w : ℕ) (cs : List Command) (m : Memory) → Spares b cs → applied_all cs m b w ≡ m b w
all_spares b w [] m h = refl
all_spares b w (c ∷ cs) m h = all_spares b w cs (applied c m) h.1 ∙ applied_spares b w c m h.0

pub interrupted_spares : (k b w : ℕ) (cs : List Command) (s t : State) (f : FlashFault) → Spares b cs → Interrupted k cs s f t → t.word b w ≡ s.word b w
interrupted_spares k b w [] s t f h g = absurd g
interrupted_spares k b w (c ∷ cs) s t f h (inl g) = stopped_spares b w c s t h.0 g.1
interrupted_spares k b w (c ∷ cs) s t f h (inr g) = interrupted_spares k b w cs (done c s) t f h.1 g ∙ applied_spares b w c s.word h.0

pub ran_spares : (k b w : ℕ) (cs : List Command) (s t : State) (r : Result (Unit {0}) FlashFault) → Spares b cs → Ran k cs s r t → t.word b w ≡ s.word b w
ran_spares k b w cs s t (Ok _) h g = ap (λ (u : State). u.word b w) g ∙ all_spares b w cs s.word h
ran_spares k b w cs s t (Err f) h g = interrupted_spares k b w cs s t f h g
