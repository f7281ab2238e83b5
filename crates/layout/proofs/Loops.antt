-- Runs over numbers and bytes, against the definitions.
use Rattle.std.proofs.Common.{◌≡◌, ℕ, zero, suc, ◌+◌, ◌-◌, ◌/◌, ◌%◌, ◌<◌, ◌≤◌, Bool, ◌&&◌, List, [], ◌∷◌, get_or, sym, refl, ap, div-one, add-one, arith}
use Rattle.std.specs.List.{list_all, range_with_len, fold}
use native.Mathlib.Nat.{div-div-eq-div-mul}
use Rattle.layout.specs.Fields.{low, all_from}
use Rattle.layout.specs.Code.{crc_byte, crc_from, crc, code_of}

-- what is left, where more is left
pub left_suc : (i n : ℕ) → i < n → n - i ≡ suc (n - (i + 1))
left_suc i n h = omega arith

pub left_none : (i n : ℕ) → n ≤ i → n - i ≡ 0
left_none i n h = omega arith

-- to test all numbers of a range is to test the l numbers from k on
pub all_in_range : (t : ℕ → Bool) (k l : ℕ) → list_all t (range_with_len k l) ≡ all_from t k l
all_in_range t k zero = refl
all_in_range t k (suc l) = rw add-one (ap (λ b. t k && b) (all_in_range t (suc k) l))

pub low_at : (x j : ℕ) → j < 4 → get_or (x % 256 ∷ x / 256 % 256 ∷ x / 65536 % 256 ∷ x / 16777216 % 256 ∷ []) j 0 ≡ low x j
unfolding low
low_at x zero h = sym (ap (λ y. y % 256) (div-one x))
low_at x (suc zero) h = refl
low_at x (suc (suc zero)) h = refl
low_at x (suc (suc (suc zero))) h = refl
low_at x (suc (suc (suc (suc j)))) h = absurd (omega arith)

-- to take bytes in turn is to fold over them
pub crc_fold : (r : ℕ) (xs : List ℕ) → fold crc_byte r xs ≡ crc_from r xs
unfolding crc_from
crc_fold r [] = refl
crc_fold r (x ∷ xs) = crc_fold (crc_byte r x) xs

-- the bytes of the number, then those of the serial
pub code_parts : (n s : ℕ) → crc_from (crc_from 0xFFFF (n % 256 ∷ n / 256 % 256 ∷ [])) (s % 256 ∷ s / 256 % 256 ∷ s / 65536 % 256 ∷ s / 16777216 % 256 ∷ []) ≡ code_of n s
unfolding code_of crc crc_from
code_parts n s = simp div-div-eq-div-mul
