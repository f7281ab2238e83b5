-- What a write decides, from what a look over the flash finds.
--     serial_after o         the serial after that of the newest record
--     roomed c need          whether there are so many free blocks, by the counts of all states
--     LeadsToRecord ..       what the commands of a write leave once they are done
use Rattle.std.specs.Prelude.{◌≡◌, ℕ, ◌+◌, cond, List, ◌∷◌, Some, None, Ok, Err, Option, Result, ◌==◌, nat_lt}
use Rattle.flash.specs.State.{Memory}
use Rattle.layout.specs.Sizes.{Sizes, size, blocks_of}
use Rattle.records.specs.declared.head.Head.{Head}
use Rattle.records.specs.declared.table.Counts.{Counts}
use Rattle.writing.specs.Law.{Wrote}
use Rattle.choice.specs.Choosing.{free_blocks}
use Rattle.decision.specs.declared.fault.UnitCause.TheVariants.{EraseFirst, Full}
use Rattle.decision.specs.declared.fault.UnitFault.{UnitFault}
use Rattle.decision.specs.declared.fault.UnitFault.TheVariants.{Own}

-- 1 without a record, none after the last serial
abbrev pub serial_after : Option Head → Option ℕ
serial_after None = Some 1
serial_after (Some h) = cond (h.serial == 4294967295) None (Some (h.serial + 1))

-- too few even with the spent and half-erased ones; too few free ones
abbrev pub roomed : Counts → ℕ → Result (Unit {0}) UnitFault
roomed c need = cond (nat_lt (c.free + c.spent + c.half_erased) need) (Err (Own Full)) (cond (nat_lt c.free need) (Err (Own EraseFirst)) (Ok tt))

-- the words m' have, in the blocks that a write takes of a flash with the words m, a sound record with this number, serial and data, and no other word differs
abbrev pub LeadsToRecord : ℕ → Memory → Sizes → ℕ → List ℕ → ℕ → Memory → Type 0
LeadsToRecord count m p n d s m' =
    (b : ℕ) × (bs : List ℕ) × (free_blocks count m p (blocks_of (size p n)) ≡ b ∷ bs) × Wrote count p n s d b bs m m'
