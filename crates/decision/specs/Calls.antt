-- What each call of a unit decides, on a flash of kind number k that it finds in the state s, under the plan p.
--     to_step j              step j + 1 of a start, which looks at block j
--     past s j r             how many steps are accepted after a step that answered r, where j were before it
--     Finishes Step l j x o i y    the l steps left after j, up to one refused
--     to_write p n d bar     a write of the data d for number n
--     to_read p n room bar   a read of number n into a buffer of so many bytes
--     Reads d b r o          what a read that decided d answers, and what it leaves of its buffer b
--     to_erase p bar         an erase of one block
--     to_format p c bar      a format with code c
--     Formats p c bar k s r  r stands for what a format decides
use Rattle.std.specs.Prelude.{◌≡◌, ℕ, zero, suc, ◌+◌, ◌<◌, true, cond, not, ◌⊎◌, List, [], ◌∷◌, ◌++◌, length, drop, Some, None, Ok, Err, Option, Result, ◌==◌, nat_lt}
use Rattle.flash.specs.declared.BlockNumber.{BlockNumber}
use Rattle.flash.specs.State.{State, Memory}
use Rattle.flash.specs.Commands.{Command}
use Rattle.flash.specs.Lists.{applied_all}
use Rattle.clearing.specs.Clearing.{mark, mending, clearing}
use Rattle.layout.specs.declared.state.BlockState.TheVariants.{Free, HalfErased, Spent}
use Rattle.layout.specs.Sizes.{Sizes, numbers, size, blocks_of}
use Rattle.layout.specs.Fields.{serial}
use Rattle.layout.specs.Records.{value, newest}
use Rattle.layout.specs.States.{is_half_erased, state, counted}
use Rattle.writing.specs.Writing.{record_on}
use Rattle.choice.specs.declared.group.Groups.{Groups}
use Rattle.choice.specs.Choosing.{free_blocks, erasable, group_of, is_first, format_order}
use Rattle.choice.specs.Tables.{group_in}
use Rattle.bar.specs.declared.Bar.{Bar}
use Rattle.decision.specs.declared.fault.UnitCause.TheVariants.{NoNumber, WrongLength, Barred, WrongCode, NoValue, EraseFirst, Full, SerialsSpent, NothingToErase}
use Rattle.decision.specs.declared.fault.UnitFault.{UnitFault}
use Rattle.decision.specs.declared.fault.UnitFault.TheVariants.{Own}
use Rattle.decision.specs.Faults.{no_power}
use Rattle.decision.specs.Decisions.{Decision, refuse, perform, Operation, unless}

-- a half-erased block is erased, and its erase end programmed
abbrev pub mend_commands : Memory → ℕ → List Command
mend_commands m b = cond (is_half_erased (m b)) (mending mark b) []

-- a step after the last does nothing and is accepted, with power off too
abbrev pub to_step : ℕ → Operation (Unit {0})
to_step j k s =
    cond (nat_lt j s.count) (unless (not s.power) (no_power k) (perform (mend_commands s.word j) tt)) (perform [] tt)

-- a step that was done is accepted, a refused one is repeated next
abbrev pub accepted : ℕ → Result (Unit {0}) UnitFault → ℕ
accepted j (Ok x) = suc j
accepted j (Err e) = j

-- there are no more steps than blocks
abbrev pub past : State → ℕ → Result (Unit {0}) UnitFault → ℕ
past s j r = cond (nat_lt j s.count) (accepted j r) j

-- all of them are done; or one after another up to one refused, o being the refusal and i the number of steps accepted then
abbrev pub Finishes : {S : Type 0} → (ℕ → S → Result (Unit {0}) UnitFault → S → Type 0) → ℕ → ℕ → S → Option UnitFault → ℕ → S → Type 0
Finishes Step zero j x o i y = (o ≡ None) × (i ≡ j) × (y ≡ x)
Finishes {S} Step (suc l) j x o i y =
    ((z : S) × Step j x (Ok tt) z × Finishes Step l (suc j) z o i y)
    ⊎ ((e : UnitFault) × (o ≡ Some e) × (i ≡ j) × Step j x (Err e) y)

-- the serial of a first block, 0 without one
abbrev pub serial_at : Memory → Option ℕ → ℕ
serial_at m None = 0
serial_at m (Some b) = serial (m b)

-- the highest serial of all current records, 0 without records
abbrev pub highest : ℕ → Memory → Sizes → ℕ
highest count m p = serial_at m (newest count m p)

-- a record with the next serial, on the free blocks that come next in the round
unfoldable pub write_commands : ℕ → Memory → Sizes → ℕ → List ℕ → List Command
write_commands count m p n d = record_on (size p n) n (suc (highest count m p)) d (free_blocks count m p (blocks_of (size p n)))

-- how many blocks could be had: those that are free, and those that an erase makes free
abbrev pub to_be_had : ℕ → Memory → Sizes → ℕ
to_be_had count m p = counted count m p Free + counted count m p Spent + counted count m p HalfErased

-- 5, 6, 7, 1, 12, 11, 10
abbrev pub to_write : Sizes → ℕ → List ℕ → Bar → Operation ℕ
to_write p n d bar k s =
    unless (not (nat_lt n (numbers p))) (Own NoNumber)
    (unless (not (length d == size p n)) (Own WrongLength)
    (unless bar.changes (Own Barred)
    (unless (not s.power) (no_power k)
    (unless (highest s.count s.word p == 4294967295) (Own SerialsSpent)
    (unless (nat_lt (to_be_had s.count s.word p) (blocks_of (size p n))) (Own Full)
    (unless (nat_lt (counted s.count s.word p Free) (blocks_of (size p n))) (Own EraseFirst)
    (perform (write_commands s.count s.word p n d) (suc (highest s.count s.word p)))))))))

-- a number without a value is refused
abbrev pub found_value : Option (List ℕ) → Decision (List ℕ)
found_value None = refuse (Own NoValue)
found_value (Some v) = perform [] v

-- 5, 6, 7, 1, 9
abbrev pub to_read : Sizes → ℕ → ℕ → Bar → Operation (List ℕ)
to_read p n room bar k s =
    unless (not (nat_lt n (numbers p))) (Own NoNumber)
    (unless (nat_lt room (size p n)) (Own WrongLength)
    (unless bar.reads (Own Barred)
    (unless (not s.power) (no_power k)
    (found_value (value s.count s.word p n)))))

-- the value at the front of the buffer, its other bytes as they were, and its length as the answer; a refusal leaves all of the buffer
abbrev pub Reads : Decision (List ℕ) → List ℕ → Result ℕ UnitFault → List ℕ → Type 0
Reads (refuse e) b r o = (r ≡ Err e) × (o ≡ b)
Reads (perform cs v) b r o = (r ≡ Ok (length v)) × (o ≡ v ++ drop (length v) b)

-- the block that was found is cleared, and answered
abbrev pub clear_found : Memory → Option ℕ → Decision BlockNumber
clear_found m None = refuse (Own NothingToErase)
clear_found m (Some b) = perform (clearing mark b m) (record { 0 = b })

-- 7, 1, 13
abbrev pub to_erase : Sizes → Bar → Operation BlockNumber
to_erase p bar k s =
    unless bar.changes (Own Barred)
    (unless (not s.power) (no_power k)
    (clear_found s.word (erasable s.count s.word p)))

-- blocks cleared one after another, each as those before it left it
abbrev pub clearings : Memory → List ℕ → List Command
clearings m [] = []
clearings m (b ∷ bs) = clearing mark b m ++ clearings (applied_all (clearing mark b m) m) bs

-- the code that a format asks for
abbrev pub format_code : ℕ
format_code = 170

-- 8, 7, 1; the order is that of the blocks as it finds them
abbrev pub to_format : Sizes → ℕ → Bar → Operation (Unit {0})
to_format p c bar k s =
    unless (not (c == format_code)) (Own WrongCode)
    (unless bar.changes (Own Barred)
    (unless (not s.power) (no_power k)
    (perform (clearings s.word (format_order s.count s.word p)) tt)))

-- what a format decided is a table of the groups of the blocks as it finds them, with power on
abbrev pub Formats : Sizes → ℕ → Bar → ℕ → State → Result Groups UnitFault → Type 0
Formats p c bar k s (Ok t) =
    (to_format p c bar k s ≡ perform (clearings s.word (format_order s.count s.word p)) tt)
    × (s.power ≡ true)
    × ((b : ℕ) → b < s.count → group_in t b ≡ Some (group_of (state s.count s.word p b) (is_first s.count s.word p b)))
Formats p c bar k s (Err e) = to_format p c bar k s ≡ refuse e
