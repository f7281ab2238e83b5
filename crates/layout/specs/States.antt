-- The states of blocks. Words are those of a flash of so many blocks, under a plan.
--     in_use count m p b       block b belongs to a current record
--     is_half_erased m         an erase of the block with words m was begun or never came to its end
--     clean m                  words 0 to 14 are blank
--     state count m p b        the state of block b
--     counted count m p s      how many blocks have state s
use Rattle.std.specs.Prelude.{ℕ, zero, suc, Bool, true, false, ◌||◌, List, [], ◌∷◌, length, Some, None, filter, Option, ◌==◌}
use Rattle.std.specs.List.{range_with_len}
use Rattle.flash.specs.State.{Words, Memory}
use Rattle.layout.specs.declared.state.BlockState.{BlockState}
use Rattle.layout.specs.declared.state.BlockState.TheVariants.{Live, Free, HalfErased, Spent}
use Rattle.layout.specs.Sizes.{Sizes, numbers}
use Rattle.layout.specs.Fields.{written, blank, all_blank}
use Rattle.layout.specs.Records.{current, blocks_at}

-- whether a list of blocks has block b
abbrev pub holds : List ℕ → ℕ → Bool
holds [] b = false
holds (x ∷ xs) b = x == b || holds xs b

-- whether block b is one of the record of number n with this first block, if there is one
abbrev pub within : Memory → Sizes → ℕ → Option ℕ → ℕ → Bool
within m p n None b = false
within m p n (Some c) b = holds (blocks_at m p n c) b

-- whether a number below n passes a test
abbrev pub some_below : (ℕ → Bool) → ℕ → Bool
some_below t zero = false
some_below t (suc n) = t n || some_below t n

-- whether block b belongs to the current record of some number
unfoldable pub in_use : ℕ → Memory → Sizes → ℕ → Bool
in_use count m p b = some_below (λ n. within m p n (current count m p n) b) (numbers p)

-- erase start is written, or erase end is blank
abbrev pub is_half_erased : Words → Bool
is_half_erased m = written (m 14) || blank (m 15)

-- every word below erase end is blank
unfoldable pub clean : Words → Bool
clean m = all_blank m 0 15

-- the state of a block that is half erased or not, clean or not, in use or not
abbrev pub stated : Bool → Bool → Bool → BlockState
stated true c u = HalfErased
stated false true u = Free
stated false false true = Live
stated false false false = Spent

-- the state of block b
unfoldable pub state : ℕ → Memory → Sizes → ℕ → BlockState
state count m p b = stated (is_half_erased (m b)) (clean (m b)) (in_use count m p b)

-- whether two states are the same
abbrev pub same_state : BlockState → BlockState → Bool
same_state HalfErased HalfErased = true
same_state Free Free = true
same_state Live Live = true
same_state Spent Spent = true
same_state _ _ = false

-- those of the blocks given that have a state, in their order
abbrev pub of_state : ℕ → Memory → Sizes → BlockState → List ℕ → List ℕ
of_state count m p s = filter (λ b. same_state (state count m p b) s)

-- how many blocks of the flash have a state
unfoldable pub counted : ℕ → Memory → Sizes → BlockState → ℕ
counted count m p s = length (of_state count m p s (range_with_len 0 count))
