-- Worked examples of the layout: the blocks of some sizes, the commands of some writes, a code, and the states of some blocks.
--     nothing            the words of a block all blank
--     ended              erase end alone is written
--     begun              both erase marks are written
--     Worked             the examples
use Rattle.std.specs.Prelude.{◌≡◌, Bool, cond, ◌||◌, [], ◌∷◌, Some, None, ◌==◌}
use Rattle.flash.specs.State.{Words}
use Rattle.clearing.specs.Clearing.{mark}
use Rattle.layout.specs.declared.state.BlockState.TheVariants.{Free, HalfErased}
use Rattle.layout.specs.Sizes.{blocks_of}
use Rattle.layout.specs.Code.{crc}
use Rattle.layout.specs.States.{stated, is_half_erased, clean}
use Rattle.writing.specs.Law.{Counts}

-- no word is written
abbrev pub nothing : Words
nothing w = None

-- word 15 is written
abbrev pub ended : Words
ended w = cond (w == 15) (Some mark) None

-- words 14 and 15 are written
abbrev pub begun : Words
begun w = cond (w == 14 || w == 15) (Some mark) None

-- a state holds whether or not a current record has the block
pub record Worked : Type 0 where
  pub blocks_of_41 : blocks_of 41 ≡ 1
  pub blocks_of_42 : blocks_of 42 ≡ 2
  pub blocks_of_94 : blocks_of 94 ≡ 2
  pub blocks_of_95 : blocks_of 95 ≡ 3
  pub blocks_of_1024 : blocks_of 1024 ≡ 20
  pub commands_of_1 : Counts 1 4
  pub commands_of_41 : Counts 41 14
  pub commands_of_42 : Counts 42 15
  pub commands_of_1024 : Counts 1024 274
  pub digits_coded : crc (49 ∷ 50 ∷ 51 ∷ 52 ∷ 53 ∷ 54 ∷ 55 ∷ 56 ∷ 57 ∷ []) ≡ 0x29B1
  pub nothing_half_erased : (l : Bool) → stated (is_half_erased nothing) (clean nothing) l ≡ HalfErased
  pub ended_free : (l : Bool) → stated (is_half_erased ended) (clean ended) l ≡ Free
  pub begun_half_erased : (l : Bool) → stated (is_half_erased begun) (clean begun) l ≡ HalfErased
