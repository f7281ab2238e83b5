-- The blocks of a record, as a list.
--     blocks_of x        the blocks that x has, in order
--     numbers_of bs      the numbers of the blocks bs
--     listed x           the numbers of those that x has
--     block_in bs i      the block at place i of the numbers bs, if there is one
use Rattle.std.specs.Prelude.{ℕ, cond, List, map, length, take, Some, None, Option, nat_lt, slice_index}
use Rattle.flash.specs.declared.BlockNumber.{BlockNumber}
use Rattle.writing.specs.declared.blocks.Blocks.{Blocks}

-- the front of the table
abbrev pub blocks_of : Blocks → List BlockNumber
blocks_of x = take x.len x.blocks

-- in order
abbrev pub numbers_of : List BlockNumber → List ℕ
numbers_of bs = map (λ b. b.0) bs

-- in order
abbrev pub listed : Blocks → List ℕ
listed x = numbers_of (blocks_of x)

-- none beyond the last
abbrev pub block_in : List ℕ → ℕ → Option BlockNumber
block_in bs i = cond (nat_lt i (length bs)) (Some (record { 0 = slice_index bs i })) None
