-- A four-byte number that was put is read again, and bytes elsewhere are as before.
use Rattle.std.specs.Prelude.{◌≡◌, ℕ, ◌+◌, ◌*◌, ◌/◌, ◌%◌, ◌^◌, ◌<◌, ◌≤◌, ◌≢◌, ◌⊎◌, List, length, slice_index, slice_index_or}
use Rattle.std.proofs.Common.{inl, inr, arith, mod-eq_of_lt, lit<}
use Rattle.std.proofs.lemmas.Nat.{shr-shr}
use Rattle.std.proofs.lemmas.Bool.{cases_order}
use Rattle.std.proofs.lemmas.List.{get_or-set_same, get_or-set_other, length-set}
use Rattle.formats.specs.Bytes.{four, put_four}

pub length_four : (m : List ℕ) (i v : ℕ) → length (put_four m i v) ≡ length m
length_four m i v = simp length-set

-- a byte outside the four
pub four_keeps : (m : List ℕ) (i v k : ℕ) → (k < i) ⊎ (i + 4 ≤ k) → slice_index (put_four m i v) k ≡ slice_index m k
four_keeps m i v k h =
    let n₀ : k ≢ i = omega arith in
    let n₁ : k ≢ i + 1 = omega arith in
    let n₂ : k ≢ i + 2 = omega arith in
    let n₃ : k ≢ i + 3 = omega arith in
    simp get_or-set_other

-- two lists that agree on four bytes
pub four_agrees : (m n : List ℕ) (j : ℕ) → ((d : ℕ) → d < 4 → slice_index m (j + d) ≡ slice_index n (j + d)) → slice_index m j ≡ slice_index n j → four m j ≡ four n j
four_agrees m n j h e = omega (arith, h 1 (lit< tt), h 2 (lit< tt), h 3 (lit< tt))

pub four_other : (m : List ℕ) (i j v : ℕ) → (j + 4 ≤ i) ⊎ (i + 4 ≤ j) → four (put_four m i v) j ≡ four m j
four_other m i j v h =
    four_agrees (put_four m i v) m j (λ d l. four_keeps m i v (j + d) (elim h [ inl a ↦ inl (omega arith) | inr a ↦ inr (omega arith) ]))
    (four_keeps m i v j (elim h [ inl a ↦ inl (omega arith) | inr a ↦ inr a ]))

pub four_same : (m : List ℕ) (i v : ℕ) → i + 4 ≤ length m → v < 2 ^ 32 → four (put_four m i v) i ≡ v
four_same m i v h lt =
    let e₀ : slice_index_or (put_four m i v) i 0 ≡ v % 256 = grind (arith, get_or-set_same, get_or-set_other, length-set) in
    let e₁ : slice_index_or (put_four m i v) (i + 1) 0 ≡ v / 256 % 256 = grind (arith, get_or-set_same, get_or-set_other, length-set) in
    let e₂ : slice_index_or (put_four m i v) (i + 2) 0 ≡ v / 65536 % 256 = grind (arith, get_or-set_same, get_or-set_other, length-set) in
    let e₃ : slice_index_or (put_four m i v) (i + 3) 0 ≡ v / 16777216 % 256 = grind (arith, get_or-set_same, get_or-set_other, length-set) in
    let top : v / 16777216 % 256 ≡ v / 16777216 = mod-eq_of_lt (omega arith) in
    omega (arith, shr-shr v 8 8, shr-shr v 16 8)

-- two words that are not the same one come one after the other
pub apart : (b w c x : ℕ) → w < 16 → x < 16 → (b ≡ c → w ≢ x) → (16 * c + x < 16 * b + w) ⊎ (16 * b + w < 16 * c + x)
apart b w c x hw hx e =
    elim (cases_order c b) [
      | inl p ↦ elim (cases_order x w) [ inl q ↦ absurd (e (omega arith) (omega arith)) | inr (inl l) ↦ inl (omega arith) | inr (inr l) ↦ inr (omega arith) ]
      | inr (inl l) ↦ inl (omega arith)
      | inr (inr l) ↦ inr (omega arith)
    ]
