-- Blocks taken one after another from a chain that gives at most 20.
use Rattle.std.proofs.Common.{◌≡◌, ℕ, ◌<◌, Bool, cond, ltb, List, [], ◌∷◌, ◌++◌, length, sym, ap, ◌∙◌, arith}
use Rattle.std.proofs.lemmas.List.{map_push, length-map}
use Rattle.std.proofs.lemmas.Bool.{lt-ltb, cond-true}
use Rattle.flash.specs.declared.BlockNumber.{BlockNumber}
use Rattle.writing.specs.Listed.{numbers_of}

-- a list that has the blocks so far takes one more while there are fewer than 20
pub taken_more : (old new : List ℕ) (so_far : List BlockNumber) (block : BlockNumber) (r : Bool) → old ≡ numbers_of so_far → length so_far < 20
    → r ≡ ltb (length old) 20 → new ≡ cond r (old ++ block.0 ∷ []) old → new ≡ numbers_of (so_far ++ block ∷ [])
taken_more old new so_far block r same few answer taken =
    let long : length old ≡ length so_far = ap length same ∙ length-map so_far (λ (b : BlockNumber). b.0) in
    taken
    ∙ cond-true r (old ++ block.0 ∷ []) old (answer ∙ lt-ltb (length old) 20 (omega (arith, long, few)))
    ∙ ap (λ (l : List ℕ). l ++ block.0 ∷ []) same
    ∙ sym (map_push (λ (b : BlockNumber). b.0) so_far block)
