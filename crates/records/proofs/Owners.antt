-- Which sound first block a block is, and the table of heads one block on.
use Rattle.std.proofs.Common.{◌≡◌, ℕ, ◌+◌, ◌<◌, ◌≤◌, Bool, true, false, cond, ltb, List, length, get_or, replicate, IfSome, Some, None, Option, sym, refl, ap, ◌∙◌, subst, inl, inr, add-one, arith}
use Rattle.std.proofs.lemmas.Bool.{cases_lt, cases_eq, cases_Bool, cond-true, cond-false, lt-ltb, le-ltb}
use Rattle.std.proofs.lemmas.List.{get_or-set_same, get_or-set_other, length-set, get_or-replicate, get_or_past, length-replicate}
use Rattle.std.proofs.lemmas.Bool.Decides.{nat_tests}
use Rattle.flash.specs.State.{Words, Memory}
use Rattle.layout.specs.Sizes.{Sizes}
use Rattle.layout.specs.Fields.{number, serial}
use Rattle.layout.specs.Sound.{candidate, sound}
use Rattle.layout.specs.Records.{better, best, current}
use Rattle.records.proofs.Chains.{beyond_unsound}
use Rattle.records.specs.declared.head.Head.{Head}
use Rattle.records.specs.declared.head.Owned.{Owned}
use Rattle.records.specs.declared.head.Heads.{Heads}
use Rattle.records.specs.Heads.{head_at, headed, owner, head_in, preferred, entered}
use Rattle.records.specs.Tables.{Tabled}

module _ (count : ℕ) (m : Memory) (p : Sizes) (b : ℕ) (w : Words) (n : ℕ) (e : w ≡ m b) (q : n ≡ number w) where
  same : (t : Bool) → t ≡ sound count m p n b → sound count m p (number (m b)) b ≡ t
  same t h = ap (λ k. sound count m p k b) (sym (q ∙ ap number e)) ∙ sym h

  pub owner_none : false ≡ sound count m p n b → None ≡ owner count m p b
  unfolding owner
  owner_none h = let f = same false h in rw f refl

  pub owner_some : (s : ℕ) → true ≡ sound count m p n b → s ≡ serial w → Some (record { number = record { 0 = n }; head = record { serial = s; block = record { 0 = b } } }) ≡ owner count m p b
  unfolding owner
  owner_some s h v =
      let f = same true h in
      let i : n ≡ number (m b) = q ∙ ap number e in
      let j : s ≡ serial (m b) = v ∙ ap serial e in
      rw f (ap (λ (k : ℕ). Some (record { number = record { 0 = k }; head = record { serial = s; block = record { 0 = b } } })) i ∙ ap (λ (k : ℕ). Some (record { number = record { 0 = number (m b) }; head = record { serial = k; block = record { 0 = b } } })) j)

pub owner_beyond : (count : ℕ) (m : Memory) (p : Sizes) (b : ℕ) → count ≤ b → None ≡ owner count m p b
unfolding owner
owner_beyond count m p b h = let f = sym (beyond_unsound count m p (number (m b)) b h) in rw f refl

chosen : {A : Type 0} (t : Bool) (x o : A) → Some o ≡ cond t (Some x) None → (t ≡ true) × (o ≡ x)
chosen true x o h = (refl, cc)
chosen false x o h = absurd (let z : ◌≡◌ {A = ℕ} 0 1 = cc in omega arith)

left_out : {A : Type 0} (t : Bool) (x : A) → None ≡ cond t (Some x) None → t ≡ false
left_out true x h = absurd (let z : ◌≡◌ {A = ℕ} 0 1 = cc in omega arith)
left_out false x h = refl

pub owned : (count : ℕ) (m : Memory) (p : Sizes) (b : ℕ) (o : Owned) → Some o ≡ owner count m p b
    → (sound count m p (number (m b)) b ≡ true) × (o ≡ record { number = record { 0 = number (m b) }; head = head_at m b })
unfolding owner
owned count m p b o h = chosen (sound count m p (number (m b)) b) _ o h

pub not_owned : (count : ℕ) (m : Memory) (p : Sizes) (b : ℕ) → None ≡ owner count m p b → sound count m p (number (m b)) b ≡ false
unfolding owner
not_owned count m p b h = left_out (sound count m p (number (m b)) b) _ h

-- a sound first block, and so a block with an owner, is one of a number that the plan has
pub sound_below : (count : ℕ) (m : Memory) (p : Sizes) (n b : ℕ) → sound count m p n b ≡ true → n < length p
unfolding sound candidate
sound_below count m p n b h = grind (arith, nat_tests)

pub owned_below : (count : ℕ) (m : Memory) (p : Sizes) (b : ℕ) (o : Owned) → Some o ≡ owner count m p b → o.number.0 < length p
owned_below count m p b o h = let r = owned count m p b o h in let l = sound_below count m p (number (m b)) b r.0 in rw r.1 l

pub sound_number : (count : ℕ) (m : Memory) (p : Sizes) (n b : ℕ) → sound count m p n b ≡ true → number (m b) ≡ n
unfolding sound candidate
sound_number count m p n b h = grind (arith, nat_tests)

other_unsound : (count : ℕ) (m : Memory) (p : Sizes) (n b : ℕ) → (n ≡ number (m b) → ⊥) → sound count m p n b ≡ false
other_unsound count m p n b ne = elim (cases_Bool (sound count m p n b)) [ inl h ↦ absurd (ne (sym (sound_number count m p n b h))) | inr h ↦ h ]

step : (count : ℕ) (m : Memory) (p : Sizes) (n b : ℕ) (t : Bool) → sound count m p n b ≡ t → best (sound count m p n) m (b + 1) ≡ better m (best (sound count m p n) m b) b t
step count m p n b t h = ap (best (sound count m p n) m) (add-one b) ∙ ap (better m (best (sound count m p n) m b) b) h

abbrev Under : ℕ → Memory → Sizes → ℕ → List (Option Head) → Type 0
Under count m p b es = (n : ℕ) → get_or es n None ≡ headed m (best (sound count m p n) m b)

keep : (count : ℕ) (m : Memory) (p : Sizes) (b : ℕ) (es : List (Option Head)) → Under count m p b es → None ≡ owner count m p b → Under count m p (b + 1) es
keep count m p b es h o n = h n ∙ ap (headed m) (sym (step count m p n b false (elim (cases_eq n (number (m b))) [
  | inl e ↦ ap (λ k. sound count m p k b) e ∙ not_owned count m p b o
  | inr e ↦ other_unsound count m p n b e
])))

prefers : (m : Memory) (b : ℕ) (o : Option ℕ) → preferred (headed m o) (head_at m b) ≡ headed m (better m o b true)
prefers m b None = refl
prefers m b (Some c) = elim (ltb (serial (m c)) (serial (m b))) as (λ x. cond x (Some (head_at m b)) (Some (head_at m c)) ≡ headed m (cond x (Some b) (Some c))) [ true ↦ refl | false ↦ refl ]

enter : (count : ℕ) (m : Memory) (p : Sizes) (b : ℕ) (es : List (Option Head)) (o : Owned) → o.number.0 < 64 → length es ≡ 64
    → Under count m p b es → Some o ≡ owner count m p b → Under count m p (b + 1) (entered es (Some o))
enter count m p b es o few lt h w n =
    let r = owned count m p b o w in
    let k : o.number.0 ≡ number (m b) = ap (λ (x : Owned). x.number.0) r.1 in
    let d : o.head ≡ head_at m b = ap (λ (x : Owned). x.head) r.1 in
    let below : o.number.0 < length es = omega arith in
    elim (cases_eq n o.number.0) [
      | inl q ↦ rw q (get_or-set_same es o.number.0 _ None below
          ∙ ap (λ x. preferred x o.head) (h o.number.0) ∙ ap (preferred (headed m (best (sound count m p o.number.0) m b))) d ∙ prefers m b _
          ∙ ap (headed m) (sym (step count m p o.number.0 b true (ap (λ x. sound count m p x b) k ∙ r.0))))
      | inr q ↦ get_or-set_other es o.number.0 n _ None q ∙ h n ∙ ap (headed m) (sym (step count m p n b false (other_unsound count m p n b (λ z. q (z ∙ sym k)))))
    ]

table_on : (count : ℕ) (m : Memory) (p : Sizes) (b : ℕ) (es : List (Option Head)) (o : Option Owned) → IfSome o (λ x. x.number.0 < 64) → (length es ≡ 64) × Under count m p b es
    → o ≡ owner count m p b → (length (entered es o) ≡ 64) × Under count m p (b + 1) (entered es o)
table_on count m p b es None few h w = (h.0, keep count m p b es h.1 w)
table_on count m p b es (Some o) few h w = (length-set es _ _ ∙ h.0, enter count m p b es o few h.0 h.1 w)

-- every entry of a table that was just made is the same
pub all_same : {X : Type 0} (x : X) (k n : ℕ) → get_or (replicate k x) n x ≡ x
all_same x k n = elim (cases_lt n k) [ inl l ↦ get_or-replicate k n x x l | inr l ↦ get_or_past (replicate k x) n x (omega (arith, length-replicate k x)) ]

-- the table of the blocks below b
abbrev pub Table : ℕ → Memory → Sizes → ℕ → Heads → Type 0
Table count m p b t = (length t.entries ≡ 64) × Under count m p b t.entries

pub table_none : (count : ℕ) (m : Memory) (p : Sizes) (t : Heads) → t.entries ≡ replicate 64 None → Table count m p 0 t
table_none count m p t e = (ap length e ∙ length-replicate {A = Option Head} 64 None, λ n. ap (λ (es : List (Option Head)). get_or es n None) e ∙ all_same None 64 n)

pub table_more : (count : ℕ) (m : Memory) (p : Sizes) (b : ℕ) (t u : Heads) (o : Option Owned) → IfSome o (λ x. x.number.0 < 64) → Table count m p b t
    → o ≡ owner count m p b → u.entries ≡ entered t.entries o → Table count m p (b + 1) u
table_more count m p b t u o few h w e =
    let r = table_on count m p b t.entries o few h w in
    subst (λ (es : List (Option Head)). (length es ≡ 64) × Under count m p (b + 1) es) (sym e) r

entry_in : (t : Heads) (n : ℕ) → length t.entries ≡ 64 → head_in t n ≡ get_or t.entries n None
entry_in t n l = elim (cases_lt n 64) [
  | inl h ↦ cond-true (ltb n 64) _ _ (lt-ltb n 64 h)
  | inr h ↦ cond-false (ltb n 64) _ _ (le-ltb n 64 h) ∙ sym (get_or_past t.entries n None (omega arith))
]

pub table_all : (count : ℕ) (m : Memory) (p : Sizes) (b : ℕ) (t : Heads) → b ≡ count → Table count m p b t → Tabled count m p t
unfolding current
table_all count m p b t e h n = entry_in t n h.0 ∙ h.1 n ∙ ap (λ k. headed m (best (sound count m p n) m k)) e
