-- The steps that an ending makes, one step on.
use Rattle.std.proofs.Common.{◌≡◌, ℕ, suc, ◌+◌, ◌-◌, ◌<◌, ◌≤◌, true, ltb, Some, None, Ok, Err, Option, Result, sym, refl, ◌∙◌, subst, inl, inr, add-one}
use Rattle.std.proofs.lemmas.Bool.{lt-ltb}
use Rattle.flash.specs.State.{State}
use Rattle.layout.proofs.Loops.{left_suc, left_none}
use Rattle.decision.specs.declared.fault.UnitFault.{UnitFault}
use Rattle.decision.specs.Calls.{past, Finishes}

module _ {S : Type 0} (Step : ℕ → S → Result (Unit {0}) UnitFault → S → Type 0) (n j : ℕ) where
  pub finishes_none : (x : S) → n ≤ j → Finishes Step (n - j) j x None j x
  finishes_none x h = rw (left_none j n h) (refl, refl, refl)

  pub finishes_refused : (x y : S) (e : UnitFault) → j < n → Step j x (Err e) y → Finishes Step (n - j) j x (Some e) j y
  finishes_refused x y e h s = rw (left_suc j n h) (inr (e, refl, refl, s))

  pub finishes_more : (x z y : S) (o : Option UnitFault) (i k : ℕ) → j < n → k ≡ j + 1 → Step j x (Ok tt) z → Finishes Step (n - k) k z o i y → Finishes Step (n - j) j x o i y
  finishes_more x z y o i k h e s f =
      let g : Finishes Step (n - (j + 1)) (suc j) z o i y =
      subst (λ (q : ℕ). Finishes Step (n - (j + 1)) q z o i y) (add-one j) (subst (λ (q : ℕ). Finishes Step (n - q) q z o i y) e f) in
      rw (left_suc j n h) (inl (z, s, g))

-- a step below the count is accepted or repeated
pub past_ok : (s : State) (j i : ℕ) (x : Unit {0}) → j < s.count → i ≡ past s j (Ok x) → i ≡ j + 1
past_ok s j i x h e = let t : ltb j s.count ≡ true = lt-ltb j s.count h in e ∙ rw t (sym (add-one j))

pub past_err : (s : State) (j i : ℕ) (f : UnitFault) → j < s.count → i ≡ past s j (Err f) → i ≡ j
past_err s j i f h e = let t : ltb j s.count ≡ true = lt-ltb j s.count h in e ∙ rw t refl
