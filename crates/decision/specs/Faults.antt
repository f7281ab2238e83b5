-- The numbers of a unit's refusals, and what a caller sees of a fault of a unit.
--     unit_number c      the number of a unit's own refusal
--     unit_seen e        what a caller sees of a fault
--     copy_refused e     a copy that was not made, as a refusal of a unit
--     no_power k         the fault where power was found off, by a flash of kind k
use Rattle.std.specs.Prelude.{ℕ}
use Rattle.flash.specs.declared.fault.Report.{Report}
use Rattle.flash.specs.declared.fault.Layer.TheVariants.{Unit as OfUnit}
use Rattle.flash.specs.Faults.{unpowered, seen}
use Rattle.values.specs.declared.CopyFault.{CopyFault}
use Rattle.values.specs.declared.CopyFault.TheVariants.{NoValue as NothingThere, TooShort, Flash as FlashFailed}
use Rattle.decision.specs.declared.fault.UnitCause.{UnitCause}
use Rattle.decision.specs.declared.fault.UnitCause.TheVariants.{NoNumber, WrongLength, Barred, WrongCode, NoValue, EraseFirst, Full, SerialsSpent, NothingToErase}
use Rattle.decision.specs.declared.fault.UnitFault.{UnitFault}
use Rattle.decision.specs.declared.fault.UnitFault.TheVariants.{Own, Flash}

-- no such data number; data or buffer of a wrong length; the bar; a wrong code of a format; no value; too few free blocks; too few blocks; no serial left; nothing to erase
abbrev pub unit_number : UnitCause → ℕ
unit_number NoNumber = 5
unit_number WrongLength = 6
unit_number Barred = 7
unit_number WrongCode = 8
unit_number NoValue = 9
unit_number EraseFirst = 10
unit_number Full = 11
unit_number SerialsSpent = 12
unit_number NothingToErase = 13

-- a unit's own fault has its layer, no kind number and no place; a fault of its flash passes upward whole
abbrev pub unit_seen : UnitFault → Report
unit_seen (Own c) = record { number = unit_number c; layer = OfUnit; kind = 0; place = record { block = record { 0 = 0 }; word = 0 } }
unit_seen (Flash f) = seen f

-- a number without a value, a buffer that is too short, a fault of the flash
abbrev pub copy_refused : CopyFault → UnitFault
copy_refused NothingThere = Own NoValue
copy_refused TooShort = Own WrongLength
copy_refused (FlashFailed f) = Flash f

-- it is the flash's fault, also where the unit found it by asking
abbrev pub no_power : ℕ → UnitFault
no_power k = Flash (unpowered k)
