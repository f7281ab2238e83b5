-- Lists of blocks: what a list holds, and lists with no block twice.
use Rattle.std.proofs.Common.{◌≡◌, ℕ, zero, suc, ◌+◌, ◌<◌, ◌≤◌, Bool, true, false, cond, eqb, ◌⊎◌, List, [], ◌∷◌, ◌++◌, take, filter, refl, subst, inl, inr, arith}
use Rattle.std.specs.List.{range_with_len, AllByRecursion}
use Rattle.std.proofs.ByRecursion.{All-take, all_kept_by, kept_by_passes}
use Rattle.std.proofs.lemmas.Bool.{or_left, or_right, or_cases, eq-eqb, eqb-true, cases_Bool, both_ways, false≢true}
use Rattle.layout.specs.States.{holds}
use Rattle.writing.specs.Law.{Distinct}

-- what holds of all blocks of a list holds of one that it has
pub held_all : (P : ℕ → Type 0) (xs : List ℕ) (x : ℕ) → AllByRecursion P xs → holds xs x ≡ true → P x
held_all P [] x a h = absurd (false≢true h)
held_all P (y ∷ ys) x a h = go (λ k. held_all P ys x a.1 k) (or_cases (eqb y x) (holds ys x) h)
  where
    go : (holds ys x ≡ true → P x) → (eqb y x ≡ true) ⊎ (holds ys x ≡ true) → P x
    go r (inl e) = subst P (eqb-true y x e) a.0
    go r (inr e) = r e

pub all_held : (P : ℕ → Type 0) (xs : List ℕ) → ((x : ℕ) → holds xs x ≡ true → P x) → AllByRecursion P xs
all_held P [] h = tt
all_held P (y ∷ ys) h = (h y (or_left (eqb y y) (holds ys y) (eq-eqb y y refl)), all_held P ys (λ x k. h x (or_right (eqb y x) (holds ys x) k)))

pub not_held : (xs : List ℕ) (x : ℕ) → (holds xs x ≡ true → ⊥) → holds xs x ≡ false
not_held xs x h = elim (cases_Bool (holds xs x)) [ inl e ↦ absurd (h e) | inr e ↦ e ]

-- the numbers from a on, k of them
pub counting_within : (a k : ℕ) → AllByRecursion (λ x. (a ≤ x) × (x < a + k)) (range_with_len a k)
counting_within a zero = tt
counting_within a (suc k) = (
  (omega arith, omega arith),
  all_held (λ x. (a ≤ x) × (x < a + suc k)) (range_with_len (a + 1) k)
      (λ x h. let q = held_all (λ x. (a + 1 ≤ x) × (x < a + 1 + k)) (range_with_len (a + 1) k) x (counting_within (a + 1) k) h in (omega arith, omega arith)),
)

pub counting_held : (a k x : ℕ) → holds (range_with_len a k) x ≡ true → (a ≤ x) × (x < a + k)
counting_held a k x h = held_all (λ x. (a ≤ x) × (x < a + k)) (range_with_len a k) x (counting_within a k) h

pub counting_distinct : (a k : ℕ) → Distinct (range_with_len a k)
counting_distinct a zero = tt
counting_distinct a (suc k) = (not_held (range_with_len (a + 1) k) a (λ h. let q = counting_held (a + 1) k a h in omega arith), counting_distinct (a + 1) k)

holds_append : (xs ys : List ℕ) (x : ℕ) → holds (xs ++ ys) x ≡ true → (holds xs x ≡ true) ⊎ (holds ys x ≡ true)
holds_append [] ys x h = inr h
holds_append (y ∷ xs) ys x h = go (λ k. holds_append xs ys x k) (or_cases (eqb y x) (holds (xs ++ ys) x) h)
  where
    more : (holds xs x ≡ true) ⊎ (holds ys x ≡ true) → (holds (y ∷ xs) x ≡ true) ⊎ (holds ys x ≡ true)
    more (inl q) = inl (or_right (eqb y x) (holds xs x) q)
    more (inr q) = inr q

    go : (holds (xs ++ ys) x ≡ true → (holds xs x ≡ true) ⊎ (holds ys x ≡ true)) → (eqb y x ≡ true) ⊎ (holds (xs ++ ys) x ≡ true) → (holds (y ∷ xs) x ≡ true) ⊎ (holds ys x ≡ true)
    go r (inl e) = inl (or_left (eqb y x) (holds xs x) e)
    go r (inr e) = more (r e)

pub distinct_append : (xs ys : List ℕ) → Distinct xs → Distinct ys → ((x : ℕ) → holds xs x ≡ true → holds ys x ≡ false) → Distinct (xs ++ ys)
distinct_append [] ys a b h = b
distinct_append (x ∷ xs) ys a b h = (
  not_held (xs ++ ys) x (λ k. go (holds_append xs ys x k)),
  distinct_append xs ys a.1 b (λ y k. h y (or_right (eqb x y) (holds xs y) k)),
)
  where
    go : (holds xs x ≡ true) ⊎ (holds ys x ≡ true) → ⊥
    go (inl e) = both_ways (holds xs x) a.0 e
    go (inr e) = both_ways (holds ys x) (h x (or_left (eqb x x) (holds xs x) (eq-eqb x x refl))) e

-- a part of a list that passes a test
pub kept_held : (t : ℕ → Bool) (xs : List ℕ) (x : ℕ) → holds (filter t xs) x ≡ true → (holds xs x ≡ true) × (t x ≡ true)
kept_held t xs x h = (
  held_all (λ y. holds xs y ≡ true) (filter t xs) x (all_kept_by t (λ y. holds xs y ≡ true) xs (all_held (λ y. holds xs y ≡ true) xs (λ y k. k))) h,
  held_all (λ y. t y ≡ true) (filter t xs) x (kept_by_passes t xs) h,
)

pub kept_distinct : (t : ℕ → Bool) (xs : List ℕ) → Distinct xs → Distinct (filter t xs)
kept_distinct t [] d = tt
kept_distinct t (x ∷ xs) d = go (kept_distinct t xs d.1) (t x)
  where
    go : Distinct (filter t xs) → (b : Bool) → Distinct (cond b (x ∷ filter t xs) (filter t xs))
    go r true = (not_held (filter t xs) x (λ h. both_ways (holds xs x) d.0 (kept_held t xs x h).0), r)
    go r false = r

-- two tests that agree on a list keep the same
pub kept_alike : (q t : ℕ → Bool) (xs : List ℕ) → AllByRecursion (λ x. q x ≡ t x) xs → filter q xs ≡ filter t xs
kept_alike q t [] a = refl
kept_alike q t (x ∷ xs) a = rw (a.0, kept_alike q t xs a.1) refl

-- the front of a list
pub take_held : (k : ℕ) (xs : List ℕ) (x : ℕ) → holds (take k xs) x ≡ true → holds xs x ≡ true
take_held k xs x h = held_all (λ y. holds xs y ≡ true) (take k xs) x (All-take (λ y. holds xs y ≡ true) k xs (all_held (λ y. holds xs y ≡ true) xs (λ y q. q))) h

pub take_distinct : (k : ℕ) (xs : List ℕ) → Distinct xs → Distinct (take k xs)
take_distinct zero xs d = tt
take_distinct (suc k) [] d = tt
take_distinct (suc k) (x ∷ xs) d = (not_held (take k xs) x (λ h. both_ways (holds xs x) d.0 (take_held k xs x h)), take_distinct k xs d.1)
