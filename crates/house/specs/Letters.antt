-- The letters of the states of blocks.
--     letter_of s        the character code of the letter of state s
use Rattle.std.specs.Prelude.{ℕ}
use Rattle.layout.specs.declared.state.BlockState.{BlockState}
use Rattle.layout.specs.declared.state.BlockState.TheVariants.{Live, Free, HalfErased, Spent}

-- L, F, H and S
abbrev pub letter_of : BlockState → ℕ
letter_of Live = 76
letter_of Free = 70
letter_of HalfErased = 72
letter_of Spent = 83
