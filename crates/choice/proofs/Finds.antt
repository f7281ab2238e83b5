-- The first of the blocks that pass a test.
use Rattle.std.proofs.Common.{◌≡◌, ℕ, Bool, true, false, cond, List, [], ◌∷◌, Some, None, filter, Option, refl, ap, ◌∙◌}
use Rattle.std.specs.List.{find}
use Rattle.std.specs.Option.{option_map}
use Rattle.flash.specs.declared.BlockNumber.{BlockNumber}
use Rattle.choice.specs.Choosing.{first_of}
use Rattle.choice.specs.Tables.{numbered}

module _ (t : ℕ → Bool) where
  found : (xs : List ℕ) → find t xs ≡ first_of (filter t xs)
  found [] = refl
  found (x ∷ xs) = go (found xs) (t x)
    where
      go : find t xs ≡ first_of (filter t xs) → (b : Bool) → cond b (Some x) (find t xs) ≡ first_of (cond b (x ∷ filter t xs) (filter t xs))
      go e true = refl
      go e false = e

  -- what a search over blocks with these numbers answers
  pub first_found : (xs : List ℕ) (r : Option BlockNumber) → option_map (λ b. b.0) r ≡ find t xs → r ≡ numbered (first_of (filter t xs))
  first_found xs None e = ap numbered (e ∙ found xs)
  first_found xs (Some b) e = ap numbered (e ∙ found xs)
