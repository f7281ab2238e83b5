-- The state of a block, from what it is by its own words and whether a current record has it.
use Rattle.std.proofs.Common.{◌≡◌, ℕ, ◌<◌, Bool, true, false, ltb, Some, Option, refl, ap, ◌∙◌}
use Rattle.std.proofs.lemmas.Bool.{lt-ltb}
use Rattle.flash.specs.State.{Memory}
use Rattle.layout.specs.declared.state.BlockState.{BlockState}
use Rattle.layout.specs.Sizes.{Sizes}
use Rattle.layout.specs.States.{is_half_erased, clean, in_use, stated, state}
use Rattle.records.specs.Tables.{standing, standing_of}
use Rattle.survey.specs.Entries.{settle, settled}

settles : (h c u : Bool) → settle (stated h c false) u ≡ stated h c u
settles true c u = refl
settles false true u = refl
settles false false true = refl
settles false false false = refl

pub settled_state : (count : ℕ) (m : Memory) (p : Sizes) (b : ℕ) (o x : Option BlockState) (i : Bool) → b < count → o ≡ standing_of count m b → i ≡ in_use count m p b → x ≡ settled o i
    → x ≡ Some (state count m p b)
unfolding state
settled_state count m p b o x i l e q f =
    let t : ltb b count ≡ true = lt-ltb b count l in
    let known : o ≡ Some (standing (m b)) = e ∙ rw t refl in
    f ∙ ap (λ (z : Option BlockState). settled z i) known ∙ ap (λ (z : Bool). Some (settle (standing (m b)) z)) q ∙ ap Some (settles (is_half_erased (m b)) (clean (m b)) (in_use count m p b))
