-- Marks along a chain, and of all current records.
use Rattle.std.proofs.Common.{◌≡◌, ℕ, zero, suc, ◌+◌, ◌-◌, ◌<◌, ◌≤◌, Bool, true, false, ◌||◌, eqb, ltb, List, ◌∷◌, length, get_or, set, replicate, Some, Ok, Err, Option, Result, sym, refl, ap, ◌∙◌, subst, inl, inr, arith}
use Rattle.std.proofs.lemmas.Bool.{cases_eq, cases_lt, eq-eqb, ne_eqb, lt-ltb, le-ltb, cond-true, cond-false}
use Rattle.std.proofs.lemmas.List.{get_or-set_same, get_or-set_other, get_or_past}
use Rattle.std.proofs.lemmas.Bool.Decides.{nat_tests}
use Rattle.flash.specs.declared.fault.FlashFault.{FlashFault}
use Rattle.flash.specs.State.{State, Words, Memory}
use Rattle.layout.specs.Sizes.{Sizes, numbers, size, followers}
use Rattle.layout.specs.Fields.{chain}
use Rattle.layout.specs.Sound.{leads, sound}
use Rattle.layout.specs.Records.{chained, blocks_at, current}
use Rattle.layout.specs.States.{holds, within, some_below, in_use}
use Rattle.layout.proofs.Loops.{left_suc}
use Rattle.records.specs.declared.head.Head.{Head}
use Rattle.records.specs.Heads.{headed}
use Rattle.records.proofs.Owners.{all_same}
use Rattle.records.proofs.Headed.{head_is, head_sound, head_inside}
use Rattle.survey.specs.declared.block_set.BlockSet.{BlockSet}
use Rattle.survey.specs.Sets.{member, inserted}
use Rattle.survey.specs.Used.{Marked, Marks}

-- what an answer says more weakly
pub marks_weaker : (k : ℕ) (s : State) (t v u : BlockSet) (q q' : ℕ → Bool) (r : Result (Unit {0}) FlashFault) → (Marked v u q → Marked t u q') → Marks k s v u q r → Marks k s t u q' r
marks_weaker k s t v u q q' (Ok _) f h = (h.0, f h.1)
marks_weaker k s t v u q q' (Err _) f h = h

turn : (a p q : Bool) → (p || (a || q)) ≡ ((a || p) || q)
turn true true q = refl
turn true false q = refl
turn false p q = refl

-- one block more
marked_at : (xs : List Bool) (c b : ℕ) → c < length xs → get_or (set xs c true) b false ≡ (eqb c b || get_or xs b false)
marked_at xs c b l = elim (cases_eq b c) [
  | inl e ↦ rw (e, eq-eqb c c refl) (get_or-set_same xs c true false l)
  | inr e ↦ let z : eqb c b ≡ false = ne_eqb c b (λ q. e (sym q)) in rw z (get_or-set_other xs c b true false e)
]

pub member_marks : (u : BlockSet) (b : ℕ) → member u.marks b ≡ get_or u.marks b false
member_marks u b = elim (cases_lt b 256) [
  | inl h ↦ cond-true (ltb b 256) _ _ (lt-ltb b 256 h)
  | inr h ↦ cond-false (ltb b 256) _ _ (le-ltb b 256 h) ∙ sym (get_or_past u.marks b false (omega (arith, u.whole)))
]

pub member_none : (u : BlockSet) (b : ℕ) → u.marks ≡ replicate 256 false → member u.marks b ≡ false
member_none u b e = member_marks u b ∙ ap (λ (l : List Bool). get_or l b false) e ∙ all_same false 256 b

pub member_inserted : (t u : BlockSet) (c b : ℕ) → c < 256 → u.marks ≡ inserted t.marks c → member u.marks b ≡ (eqb c b || member t.marks b)
member_inserted t u c b l e =
    member_marks u b ∙ ap (λ (ms : List Bool). get_or ms b false) (e ∙ cond-true (ltb c 256) _ _ (lt-ltb c 256 l))
    ∙ marked_at t.marks c b (omega (arith, t.whole)) ∙ ap (λ (y : Bool). eqb c b || y) (sym (member_marks t b))

-- each of these blocks is one of the flash's
abbrev pub Below : ℕ → List ℕ → Type 0
Below count bs = (b : ℕ) → holds bs b ≡ true → b < count

below_first : (count c : ℕ) (bs : List ℕ) → Below count (c ∷ bs) → c < count
below_first count c bs h = h c (rw (eq-eqb c c refl) refl)

or_right : (a b : Bool) → b ≡ true → (a || b) ≡ true
or_right true b h = refl
or_right false b h = h

below_rest : (count c : ℕ) (bs : List ℕ) → Below count (c ∷ bs) → Below count bs
below_rest count c bs h b e = h b (or_right (eqb c b) (holds bs b) e)

-- the walk has come to following block j, at c, and has the marks u; it began at c₀ with the marks t
pub record Walk (count : ℕ) (m : Memory) (s c₀ : ℕ) (t : BlockSet) (j c : ℕ) (u : BlockSet) : Type 0 where
  pub below : Below count (chained m c (followers s - j))
  pub left : (x : ℕ) → (holds (chained m c (followers s - j)) x || member u.marks x) ≡ (holds (chained m c₀ (followers s)) x || member t.marks x)

module _ (count : ℕ) (m : Memory) (s c₀ : ℕ) (t : BlockSet) (j c : ℕ) (u : BlockSet) (h : Walk count m s c₀ t j c u) (l : j < followers s) where
  here : chained m c (followers s - j) ≡ c ∷ chained m (chain (m c)) (followers s - (j + 1))
  here = rw (left_suc j (followers s) l) refl

  below_here : Below count (c ∷ chained m (chain (m c)) (followers s - (j + 1)))
  below_here = subst (λ (bs : List ℕ). Below count bs) here h.below

  pub walk_below : c < count
  walk_below = below_first count c _ below_here

  pub walk_more : (w : Words) (d : ℕ) (v : BlockSet) → count ≤ 256 → w ≡ m c → d ≡ chain w → v.marks ≡ inserted u.marks c → Walk count m s c₀ t (j + 1) d v
  walk_more w d v few e q g =
      let r : chain (m c) ≡ d = sym (q ∙ ap chain e) in
      let lc : c < 256 = omega (arith, walk_below) in
      let rest : List ℕ = chained m d (followers s - (j + 1)) in
      let n : chained m c (followers s - j) ≡ c ∷ rest = here ∙ ap (λ (z : ℕ). c ∷ chained m z (followers s - (j + 1))) r in
      record {
        below = below_rest count c rest (subst (λ (bs : List ℕ). Below count bs) n h.below);
        left = λ x.
            let k : member v.marks x ≡ (eqb c x || member u.marks x) = member_inserted u v c x lc g in
            let o : (holds (c ∷ rest) x || member u.marks x) ≡ (holds (chained m c₀ (followers s)) x || member t.marks x) = ap (λ (l : List ℕ). holds l x || member u.marks x) (sym n) ∙ h.left x in
            ap (λ (y : Bool). holds rest x || y) k ∙ turn (eqb c x) _ _ ∙ o;
      }

-- the blocks of a chain that leads back are the flash's
leads_below : (count : ℕ) (m : Memory) (s b j c l : ℕ) → leads count m s b j c l ≡ true → Below count (chained m c l)
leads_below count m s b j c zero h x e = absurd (let z : ◌≡◌ {A = ℕ} 0 1 = cc in omega arith)
leads_below count m s b j c (suc l) h x e =
    let on : leads count m s b (suc j) (chain (m c)) l ≡ true = grind (arith, nat_tests) in
    let first : c < count = grind (arith, nat_tests) in
    elim (cases_eq c x) [
      | inl q ↦ subst (λ (y : ℕ). y < count) q first
      | inr q ↦ let z : eqb c x ≡ false = ne_eqb c x q in leads_below count m s b (suc j) (chain (m c)) l on x (ap (λ (t : Bool). t || holds (chained m (chain (m c)) l) x) (sym z) ∙ e)
    ]

module _ (count : ℕ) (m : Memory) (p : Sizes) (n : ℕ) (h : Head) (e : Some h ≡ headed m (current count m p n)) where
  pub head_below : h.block.0 < count
  head_below = head_inside count m p n h e

  head_led : leads count m (size p n) h.block.0 0 (chain (m h.block.0)) (followers (size p n)) ≡ true
  unfolding sound
  head_led = let s = head_sound count m p n h e in grind (arith, nat_tests)

  pub chain_below : (c s : ℕ) (w : Words) → w ≡ m h.block.0 → c ≡ chain w → s ≡ size p n → Below count (chained m c (followers s))
  chain_below c s w q r z =
      let i : c ≡ chain (m h.block.0) = r ∙ ap chain q in
      subst (λ (y : ℕ). Below count (chained m y (followers s))) (sym i)
      (subst (λ (y : ℕ). Below count (chained m (chain (m h.block.0)) (followers y))) (sym z)
      (leads_below count m (size p n) h.block.0 0 (chain (m h.block.0)) (followers (size p n)) head_led))

  pub record_marked : (c s : ℕ) (w : Words) (t v u : BlockSet) → count ≤ 256 → w ≡ m h.block.0 → c ≡ chain w → s ≡ size p n → v.marks ≡ inserted t.marks h.block.0
      → Marked v u (holds (chained m c (followers s))) → Marked t u (within m p n (current count m p n))
  unfolding blocks_at
  record_marked c s w t v u few q r z g k x =
      let b = h.block.0 in
      let i : c ≡ chain (m b) = r ∙ ap chain q in
      let y : member v.marks x ≡ (eqb b x || member t.marks x) = member_inserted t v b x (omega (arith, head_below)) g in
      k x ∙ ap (λ (z : Bool). holds (chained m c (followers s)) x || z) y ∙ turn (eqb b x) _ _
      ∙ ap (λ (y : ℕ). holds (b ∷ chained m y (followers s)) x || member t.marks x) i
      ∙ ap (λ (y : ℕ). holds (b ∷ chained m (chain (m b)) (followers y)) x || member t.marks x) z
      ∙ ap (λ (o : Option ℕ). within m p n o x || member t.marks x) (sym (head_is count m p n h e))

-- the current records of the numbers below n are marked
abbrev pub Used : ℕ → Memory → Sizes → ℕ → BlockSet → Type 0
Used count m p n u = (b : ℕ) → member u.marks b ≡ some_below (λ k. within m p k (current count m p k) b) n

pub used_all : (count : ℕ) (m : Memory) (p : Sizes) (n : ℕ) (u : BlockSet) → n ≡ numbers p → Used count m p n u → (b : ℕ) → member u.marks b ≡ in_use count m p b
unfolding in_use
used_all count m p n u e h b = h b ∙ ap (some_below (λ i. within m p i (current count m p i) b)) e
