-- The bytes of a block from their parts, also where there is less data than the size says.
use Rattle.std.proofs.Common.{◌≡◌, ℕ, ◌+◌, ◌-◌, ◌*◌, ◌/◌, ◌%◌, ◌<◌, ◌≤◌, min, ◌⊎◌, List, [], ◌∷◌, ◌++◌, length, take, drop, sym, refl, ap, ◌∙◌, inl, inr, arith, length-drop}
use native.Mathlib.Nat.{div-div-eq-div-mul}
use Rattle.std.proofs.lemmas.List.{take_min, take_all, drop_all}
use Rattle.std.proofs.lemmas.Bool.{cases_lt}
use Rattle.layout.specs.declared.block_type.BlockType.TheVariants.{Following}
use Rattle.layout.specs.Sizes.{first_share, share}
use Rattle.layout.specs.Code.{code_of}
use Rattle.layout.specs.Sound.{type_number, first_type}
use Rattle.writing.specs.Writing.{first_bytes_by_size, follow_bytes}

-- two bytes, and four bytes, of a number
abbrev two : ℕ → List ℕ
two x = x % 256 ∷ x / 256 % 256 ∷ []

abbrev four : ℕ → List ℕ
four x = x % 256 ∷ x / 256 % 256 ∷ x / 65536 % 256 ∷ x / 16777216 % 256 ∷ []

-- as much as there is
take_most : (t k : ℕ) (xs : List ℕ) → t ≡ min (length xs) k → take t xs ≡ take k xs
take_most t k xs h = ap (λ (i : ℕ). take i xs) (omega arith) ∙ take_min k xs

pub part_most : (t f k i : ℕ) (xs : List ℕ) → f ≡ min (length xs) i → t ≡ min (length xs) (f + k) - f → take t (drop f xs) ≡ take k (drop i xs)
part_most t f k i xs e h = go (cases_lt (length xs) i)
  where
    go : (length xs < i) ⊎ (i ≤ length xs) → take t (drop f xs) ≡ take k (drop i xs)
    go (inl l) =
        let a : drop f xs ≡ [] = drop_all f xs (omega arith) in
        let b : drop i xs ≡ [] = drop_all i xs (omega arith) in
        rw (a, b) (take_all t [] (omega arith) ∙ sym (take_all k [] (omega arith)))
    go (inr l) =
        let a : f ≡ i = omega arith in
        ap (λ (x : ℕ). take t (drop x xs)) a ∙ take_most t k (drop i xs) (omega (arith, length-drop i xs))

-- a first block, part by part
pub first_parts : (z n s next k t : ℕ) (d : List ℕ) → k ≡ code_of n s → t ≡ min (length d) (first_share z)
    → type_number (first_type z) ∷ (two next ++ (two n ++ (four s ++ (two k ++ take t d)))) ≡ first_bytes_by_size z n s next d
unfolding first_bytes_by_size
first_parts z n s next k t d h e = rw (h, take_most t (first_share z) d e) (simp div-div-eq-div-mul)

-- and a following one
pub follow_parts : (z j next : ℕ) (d : List ℕ) → type_number Following ∷ (two next ++ take (share z j) (drop (41 + 53 * j) d)) ≡ follow_bytes z j next d
unfolding follow_bytes
follow_parts z j next d = refl
