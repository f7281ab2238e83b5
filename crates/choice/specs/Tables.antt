-- Which blocks a call takes, from the tables that a pass over the flash fills: the states of all blocks and the current records.
--     round_of r             the blocks of a round, in order
--     blocks_left b          the blocks of a round that have not come yet
--     round_after o count    the round that starts after the newest record's first block
--     suits a o              whether a block with this entry is of use
--     found_in a u r         the first block of use in a round
--     group_in t b           the group of block b in a table of groups
--     grouped o first        what it is to be: none where there is no such block
--     Grouped o p t          t has the group of every block, by what a look over the flash found
use Rattle.std.specs.Prelude.{◌≡◌, ℕ, ◌+◌, ◌-◌, min, Bool, true, false, cond, List, ◌++◌, Some, None, filter, Option, ◌==◌, nat_lt, slice_index_or}
use Rattle.std.specs.List.{range_with_len}
use Rattle.flash.specs.declared.BlockNumber.{BlockNumber}
use Rattle.layout.specs.declared.state.BlockState.{BlockState}
use Rattle.layout.specs.declared.state.BlockState.TheVariants.{Live, Free, HalfErased, Spent}
use Rattle.layout.specs.Sizes.{Sizes, numbers}
use Rattle.layout.specs.States.{some_below}
use Rattle.records.specs.declared.head.Head.{Head}
use Rattle.records.specs.declared.head.Heads.{Heads}
use Rattle.records.specs.Heads.{head_in}
use Rattle.survey.specs.declared.overview.Overview.{Overview}
use Rattle.records.specs.declared.table.Survey.{Survey}
use Rattle.records.specs.Entries.{entry_in}
use Rattle.choice.specs.declared.group.Group.{Group}
use Rattle.choice.specs.declared.group.Groups.{Groups}
use Rattle.choice.specs.declared.round.Round.{Round}
use Rattle.choice.specs.declared.round.RoundBlocks.{RoundBlocks}
use Rattle.choice.specs.declared.round.Purpose.{Purpose}
use Rattle.choice.specs.declared.round.Purpose.TheVariants.{Writing, Erasing}
use Rattle.choice.specs.Choosing.{useless, first_of, group_of}

-- up from its start, round the end
abbrev pub round_of : Round → List ℕ
round_of r = range_with_len r.start (r.count - r.start) ++ range_with_len 0 r.start

-- those from the start up, and then those below it
abbrev pub blocks_left : RoundBlocks → List ℕ
blocks_left b = range_with_len b.upper.start (b.upper.end - b.upper.start) ++ range_with_len b.lower.start (b.lower.end - b.lower.start)

-- the block after a record's first block, by its head; 0 without a record
abbrev pub after_head : Option Head → ℕ
after_head None = 0
after_head (Some h) = h.block.0 + 1

-- a round of count blocks starts at one of them, or at their end
abbrev pub round_after : Option Head → ℕ → Round
round_after o count = record { start = min (after_head o) count; count = count }

-- whether a state is free
abbrev pub free : BlockState → Bool
free HalfErased = false
free Free = true
free Live = false
free Spent = false

-- a write takes free blocks, an erase useless ones; where there is no block, nothing is of use
abbrev pub suits : Purpose → Option BlockState → Bool
suits Writing None = false
suits Writing (Some s) = free s
suits Erasing None = false
suits Erasing (Some s) = useless s

-- whether block b is of use
abbrev pub suited : Purpose → Survey → ℕ → Bool
suited a u b = suits a (entry_in u b)

-- the number of a block, as the code has it
abbrev pub numbered : Option ℕ → Option BlockNumber
numbered None = None
numbered (Some b) = Some (record { 0 = b })

-- the first block of use in a round
abbrev pub found_in : Purpose → Survey → Round → Option ℕ
found_in a u r = first_of (filter (suited a u) (round_of r))

-- whether a record begins at block b, by its head
abbrev pub begins_at : Option Head → ℕ → Bool
begins_at None b = false
begins_at (Some h) b = h.block.0 == b

-- whether the record of a number below n begins at block b
abbrev pub first_in : Heads → ℕ → ℕ → Bool
first_in t n b = some_below (λ k. begins_at (head_in t k) b) n

-- the table has 256
abbrev pub group_in : Groups → ℕ → Option Group
group_in t b = cond (nat_lt b 256) (slice_index_or t.entries b None) None

-- no group where there is no block
abbrev pub grouped : Option BlockState → Bool → Option Group
grouped None first = None
grouped (Some s) first = Some (group_of s first)

-- by the state of the block, and whether a current record begins there
abbrev pub Grouped : Overview → Sizes → Groups → Type 0
Grouped o p t = (b : ℕ) → group_in t b ≡ grouped (entry_in o.survey b) (first_in o.heads (numbers p) b)
