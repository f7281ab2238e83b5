-- The sizes of a plan are the front of its table; the table of a plan that is made, and what one of no plan has.
use Rattle.std.proofs.Common.{◌≡◌, ℕ, ◌<◌, ◌≤◌, ◌⊎◌, ◌++◌, List, length, get_or, take, drop, replicate, arith}
use Rattle.std.specs.List.{HoldsAt}
use Rattle.std.proofs.lemmas.List.{length-take-le, get_or-take}
use Rattle.std.proofs.Math.Seq.{take-append_seam}
use Rattle.layout.specs.Sizes.{Sizes, Planned, numbers, size}

abbrev Ranged : ℕ → List ℕ → Type 0
Ranged c xs = (n : ℕ) → n < c → (1 ≤ get_or xs n 0) × (get_or xs n 0 ≤ 1024)

module _ (xs : List ℕ) (c : ℕ) (whole : length xs ≡ 64) (few : c ≤ 64) where
  pub front_numbers : numbers (take c xs) ≡ c
  front_numbers = length-take-le c xs (omega arith)

  pub front_few : numbers (take c xs) ≤ 64
  front_few = omega (arith, front_numbers)

  pub front_size : (n : ℕ) → n < c → size (take c xs) n ≡ get_or xs n 0
  front_size n h = get_or-take c xs n 0 h

  pub front_planned : 1 ≤ c → Ranged c xs → Planned (take c xs)
  front_planned some sized = record {
    some = omega (arith, front_numbers);
    few = omega (arith, front_numbers);
    sized = λ n h. let l : n < c = omega (arith, front_numbers) in rw (front_size n l) (sized n l);
  }

-- a table of 0 whose front was filled with the sizes p
pub filled_front : (p q : Sizes) → q ≡ p → take (length p) (q ++ drop (length p) (replicate 64 0)) ≡ p
filled_front p q same = rw same (take-append_seam p (drop (length p) (replicate 64 0)))

abbrev pub IsSize : ℕ → Type 0
IsSize s = (1 ≤ s) × (s ≤ 1024)

abbrev pub IsNoSize : ℕ → Type 0
IsNoSize s = (s < 1) ⊎ (1024 < s)

-- sizes of which one is out of range are not planned
pub not_planned : (p : Sizes) → (k : ℕ) × (k < length p) × HoldsAt IsNoSize p k → Planned p → ⊥
not_planned p out planned = let size = planned.sized out.0 out.1 in let none = out.2 0 in omega arith
