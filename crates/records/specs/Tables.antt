-- What a pass over the blocks finds: a table of all current records, and what each block is by its own words.
--     Tabled count m p t     t has the head of every number's current record
--     standing_of count m b  the state of block b, if no record had it
--     Scans k s p r          the answer r has both, or is the flash's own fault where power is off
--     Finds k s p r          the answer r is such a table, or the flash's own fault where power is off
use Rattle.std.specs.Prelude.{◌≡◌, ℕ, true, false, cond, Some, None, Ok, Err, Option, Result, nat_lt}
use Rattle.flash.specs.declared.fault.FlashFault.{FlashFault}
use Rattle.flash.specs.Faults.{unpowered}
use Rattle.flash.specs.State.{State, Words, Memory}
use Rattle.layout.specs.Sizes.{Sizes}
use Rattle.layout.specs.declared.state.BlockState.{BlockState}
use Rattle.layout.specs.Records.{current}
use Rattle.layout.specs.States.{is_half_erased, clean, stated}
use Rattle.records.specs.declared.head.Heads.{Heads}
use Rattle.records.specs.declared.head.Scan.{Scan}
use Rattle.records.specs.Heads.{headed, head_in}
use Rattle.records.specs.Entries.{entry_in}

-- none for a number without a current record, and for one that the plan has not
abbrev pub Tabled : ℕ → Memory → Sizes → Heads → Type 0
Tabled count m p t = (n : ℕ) → head_in t n ≡ headed m (current count m p n)

-- power is asked first
abbrev pub Finds : ℕ → State → Sizes → Result Heads FlashFault → Type 0
Finds k s p (Ok t) = (s.power ≡ true) × Tabled s.count s.word p t
Finds k s p (Err f) = (s.power ≡ false) × (f ≡ unpowered k)

-- the state of a block with these words, if no record has it
abbrev pub standing : Words → BlockState
standing u = stated (is_half_erased u) (clean u) false

-- the table has 256
abbrev pub standing_in : Scan → ℕ → Option BlockState
standing_in t b = entry_in t.standings b

-- a block at or above the count stands for nothing
abbrev pub standing_of : ℕ → Memory → ℕ → Option BlockState
standing_of count m b = cond (nat_lt b count) (Some (standing (m b))) None

-- power is asked first
abbrev pub Scans : ℕ → State → Sizes → Result Scan FlashFault → Type 0
Scans k s p (Ok t) = (s.power ≡ true) × Tabled s.count s.word p t.heads × ((b : ℕ) → standing_in t b ≡ standing_of s.count s.word b)
Scans k s p (Err f) = (s.power ≡ false) × (f ≡ unpowered k)
