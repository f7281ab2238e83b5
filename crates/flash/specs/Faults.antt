-- The numbers of faults, and what a caller sees of a fault of a flash.
--     cause_number c     the number of a flash's refusal
--     layer_number l     the number of the layer that a fault comes from
--     fault c k b w      the fault of a flash of kind k, at word w of block b
--     unpowered k        the fault where power was found off: it has no place
--     seen f             what a caller sees of a flash's fault
--     raised k b w r     the answer r of a flash, as one of a flash of kind k that stands over it
use Rattle.std.specs.Prelude.{ℕ, Ok, Err, Result}
use Rattle.flash.specs.declared.fault.Cause.{Cause}
use Rattle.flash.specs.declared.fault.Cause.TheVariants.{Power, Block, Word, Written, Making}
use Rattle.flash.specs.declared.fault.Layer.{Layer}
use Rattle.flash.specs.declared.fault.Layer.TheVariants.{Flash, Unit as OfUnit, Command as OfCommand}
use Rattle.flash.specs.declared.fault.Report.{Report}
use Rattle.flash.specs.declared.fault.FlashFault.{FlashFault}

-- power is off or went in the call; no such block; no such word; the word is written; the flash cannot be made so
abbrev pub cause_number : Cause → ℕ
cause_number Power = 1
cause_number Block = 2
cause_number Word = 3
cause_number Written = 4
cause_number Making = 17

-- flash, unit, command
abbrev pub layer_number : Layer → ℕ
layer_number Flash = 1
layer_number OfUnit = 2
layer_number OfCommand = 3

-- a fault names its cause, the kind number of the flash called, and the place
abbrev pub fault : Cause → ℕ → ℕ → ℕ → FlashFault
fault c k b w = record { cause = c; kind = k; place = record { block = record { 0 = b }; word = w } }

-- power found off: block 0 and word 0 stand for no place
abbrev pub unpowered : ℕ → FlashFault
unpowered k = fault Power k 0 0

-- its number, the layer of flashes, its kind number and its place
abbrev pub seen : FlashFault → Report
seen f = record { number = cause_number f.cause; layer = Flash; kind = f.kind; place = f.place }

-- a fault of the flash below has the cause that it had there, and the kind number and the place of the flash above
abbrev pub raised : {X : Type 0} → ℕ → ℕ → ℕ → Result X FlashFault → Result X FlashFault
raised k b w (Ok x) = Ok x
raised k b w (Err f) = Err (fault f.cause k b w)
