-- A bit of a byte in which one bit was set to 1 or 0 is that bit, and any other is as before.
use Rattle.std.specs.Prelude.{◌≡◌, ℕ, zero, suc, ◌-◌, ◌/◌, ◌%◌, ◌^◌, ◌<◌, Bool, true, false, cond, ◌&&◌, List, length, ◌==◌, bit_and, bit_or, nat_eq, slice_index, refl}
use Rattle.std.proofs.Common.{ap, ◌∙◌, inl, inr, arith}
use Rattle.std.proofs.lemmas.Nat.{or_shr, or_mod, and_shr, and_mod}
use Rattle.std.proofs.lemmas.Bool.{eqb-true, eq-eqb, ne_eqb, cases_eq}
use Rattle.std.proofs.lemmas.Bool.Decides.{Decides-below_and}
use Rattle.std.proofs.lemmas.List.{get_or-set_same, get_or-set_other}
use Rattle.formats.specs.Bytes.{bit, with_bit, put_bit}

-- a test that is passed at each number below n
abbrev pub all_below : ℕ → (ℕ → Bool) → Bool
all_below zero p = true
all_below (suc n) p = p n && all_below n p

pub all_at : (n : ℕ) (p : ℕ → Bool) → all_below n p ≡ true → (k : ℕ) → k < n → p k ≡ true
all_at n p e = (Decides-below_and p (λ k. p k ≡ true) (λ i. all_below i p) (λ k. (λ h. h, λ h. h)) refl (λ _. refl) n).0 e

-- an equation between two functions of two digits' places, tested at all 64 pairs
at_places : (f g : ℕ → ℕ → ℕ) → all_below 8 (λ k. all_below 8 (λ j. nat_eq (f k j) (g k j))) ≡ true → (k j : ℕ) → k < 8 → j < 8 → f k j ≡ g k j
at_places f g e k j hk hj =
    eqb-true _ _ (all_at 8 (λ i. nat_eq (f k i) (g k i)) (all_at 8 (λ l. all_below 8 (λ i. nat_eq (f l i) (g l i))) e k hk) j hj)

or_digit : (r : ℕ) (t : Bool) → r < 2 → (bit_or r (cond t 1 0) == 1) ≡ cond t true (r == 1)
or_digit zero true h = refl
or_digit zero false h = refl
or_digit (suc zero) true h = refl
or_digit (suc zero) false h = refl
or_digit (suc (suc r)) t h = absurd (omega arith)

and_digit : (r : ℕ) (t : Bool) → r < 2 → (bit_and r (cond t 0 1) == 1) ≡ cond t false (r == 1)
and_digit zero true h = refl
and_digit zero false h = refl
and_digit (suc zero) true h = refl
and_digit (suc zero) false h = refl
and_digit (suc (suc r)) t h = absurd (omega arith)

pub bit_with : (x k j : ℕ) (on : Bool) → k < 8 → j < 8 → bit (with_bit x k on) j ≡ cond (j == k) on (bit x j)
bit_with x k j true hk hj =
    ap (λ z. nat_eq z 1) (ap (λ z. z % 2) (or_shr x (2 ^ k) j) ∙ or_mod (x / 2 ^ j) (2 ^ k / 2 ^ j) 1
    ∙ ap (bit_or (x / 2 ^ j % 2)) (at_places (λ k j. 2 ^ k / 2 ^ j % 2) (λ k j. cond (j == k) 1 0) refl k j hk hj))
    ∙ or_digit (x / 2 ^ j % 2) (j == k) (omega arith)
bit_with x k j false hk hj =
    ap (λ z. nat_eq z 1) (ap (λ z. z % 2) (and_shr x (255 - 2 ^ k) j) ∙ and_mod (x / 2 ^ j) ((255 - 2 ^ k) / 2 ^ j) 1
    ∙ ap (bit_and (x / 2 ^ j % 2)) (at_places (λ k j. (255 - 2 ^ k) / 2 ^ j % 2) (λ k j. cond (j == k) 0 1) refl k j hk hj))
    ∙ and_digit (x / 2 ^ j % 2) (j == k) (omega arith)

-- the same of a byte of a list
pub bit_put : (m : List ℕ) (p k q j : ℕ) (on : Bool) → p < length m → k < 8 → j < 8
    → bit (slice_index (put_bit m p k on) q) j ≡ cond (q == p && j == k) on (bit (slice_index m q) j)
bit_put m p k q j on hp hk hj =
    elim (cases_eq q p) [
      | inl e ↦ ap (λ z. bit z j) (ap (λ z. slice_index (put_bit m p k on) z) e ∙ get_or-set_same m p (with_bit (slice_index m p) k on) 0 hp)
          ∙ bit_with (slice_index m p) k j on hk hj ∙ (let t : nat_eq q p ≡ true = eq-eqb q p e in rw (t, e))
      | inr ne ↦ ap (λ z. bit z j) (get_or-set_other m p q (with_bit (slice_index m p) k on) 0 ne) ∙ (let t : nat_eq q p ≡ false = ne_eqb q p ne in rw t)
    ]
