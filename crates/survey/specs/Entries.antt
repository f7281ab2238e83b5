-- The state of every block of a flash, and how many blocks there are of each state.
--     entry_of count m p b   what the entry of block b is to be: its state, none at or above the block count
--     Surveys k s p r        the answer r is a table of these, or the flash's own fault where power is off
--     settled o u            what a block is, from what it is by its own words and whether a current record has it
--     counts_of count m p    how many blocks of the flash there are of each state
use Rattle.std.specs.Prelude.{◌≡◌, ℕ, Bool, true, false, cond, Some, None, Ok, Err, Option, Result, nat_lt}
use Rattle.flash.specs.declared.fault.FlashFault.{FlashFault}
use Rattle.flash.specs.Faults.{unpowered}
use Rattle.flash.specs.State.{State, Memory}
use Rattle.layout.specs.declared.state.BlockState.{BlockState}
use Rattle.layout.specs.declared.state.BlockState.TheVariants.{Live, Free, HalfErased, Spent}
use Rattle.layout.specs.Sizes.{Sizes}
use Rattle.layout.specs.States.{state, counted}
use Rattle.records.specs.declared.table.Survey.{Survey}
use Rattle.records.specs.declared.table.Counts.{Counts}
use Rattle.records.specs.Entries.{entry_in}

-- a block at or above the count has no state
abbrev pub entry_of : ℕ → Memory → Sizes → ℕ → Option BlockState
entry_of count m p b = cond (nat_lt b count) (Some (state count m p b)) None

-- power is asked first
abbrev pub Surveys : ℕ → State → Sizes → Result Survey FlashFault → Type 0
Surveys k s p (Ok u) = (s.power ≡ true) × ((b : ℕ) → entry_in u b ≡ entry_of s.count s.word p b)
Surveys k s p (Err f) = (s.power ≡ false) × (f ≡ unpowered k)

-- a block that a current record has is live where it would be spent
abbrev pub settle : BlockState → Bool → BlockState
settle Spent true = Live
settle Spent false = Spent
settle Live u = Live
settle Free u = Free
settle HalfErased u = HalfErased

-- no state where there is no block
abbrev pub settled : Option BlockState → Bool → Option BlockState
settled None u = None
settled (Some s) u = Some (settle s u)

-- by the definition of each state
abbrev pub counts_of : ℕ → Memory → Sizes → Counts
counts_of count m p =
    record { live = counted count m p Live; free = counted count m p Free; half_erased = counted count m p HalfErased; spent = counted count m p Spent }
