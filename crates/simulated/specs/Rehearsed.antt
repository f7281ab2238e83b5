-- What a simulated flash holds, what that means, and what each command does to it, to the byte.
--     Held                   bytes, power and rehearsal numbers
--     meant form h           the state of the flash that they mean
--     blanked form m b marks k   the first k words of block b made blank where their bit of marks is 1
--     after form c h         what is held after c was done
--     broken form c h        what is held after power went in c
--     Exact form c h r h'    what c answers and leaves
use Rattle.std.specs.Prelude.{◌≡◌, ℕ, zero, suc, ◌-◌, Bool, true, false, cond, List, Some, None, Ok, Err, Result, ◌==◌, nat_lt}
use Rattle.flash.specs.declared.Rehearsal.{Rehearsal}
use Rattle.flash.specs.declared.fault.FlashFault.{FlashFault}
use Rattle.flash.specs.declared.fault.Cause.TheVariants.{Making}
use Rattle.flash.specs.Faults.{fault}
use Rattle.flash.specs.State.{State}
use Rattle.flash.specs.Commands.{Command, verdict, loss}
use Rattle.formats.specs.Bytes.{bit}
use Rattle.formats.specs.Forms.{Form, blocks, blocks_of}

-- what a simulated flash holds
pub record Held : Type 0 where
  pub bytes : List ℕ
  pub power : Bool
  pub rehearsal : Rehearsal

-- a new flash: power on, and all but no end of commands before it goes
abbrev pub fresh : List ℕ → Held
fresh m = record { bytes = m; power = true; rehearsal = record { commands = 4294967295; manner = 0 } }

-- after the return of power
abbrev pub resumed : Rehearsal → Held → Held
resumed rehearsal h = record { bytes = h.bytes; power = true; rehearsal = rehearsal }

-- other bytes, and all else as before
abbrev pub with_bytes : List ℕ → Held → Held
with_bytes m h = record { bytes = m; power = h.power; rehearsal = h.rehearsal }

-- its block count comes from the length of its memory
abbrev pub meant : Form → Held → State
meant form h = record { count = blocks form h.bytes; power = h.power; word = form.word h.bytes }

-- a length that holds no blocks is refused
abbrev pub checked : Form → ℕ → Result (Unit {0}) FlashFault
checked form len = cond (blocks_of form.size len == 0) (Err (fault Making form.kind 0 0)) (Ok tt)

-- word by word, from word 0 on
unfoldable pub blanked : Form → List ℕ → ℕ → ℕ → ℕ → List ℕ
blanked form m b marks zero = m
blanked form m b marks (suc w) =
    cond (bit marks w) (form.put_word (blanked form m b marks w) b w None) (blanked form m b marks w)

-- a program puts its word; an erase makes all 16 words blank
abbrev pub done_bytes : Form → Command → List ℕ → List ℕ
done_bytes form (Command.program b w v) m = form.put_word m b w (Some v)
done_bytes form (Command.erase b) m = blanked form m b 0xFFFF 16

-- a stopped program does nothing in manner 0, writes the word as given in manner 1, and otherwise the four bytes of the manner;
-- a stopped erase makes word w blank where bit w of the manner is 1
abbrev pub stopped_bytes : Form → ℕ → Command → List ℕ → List ℕ
stopped_bytes form manner (Command.program b w v) m =
    cond (manner == 0) m (form.put_word m b w (Some (cond (manner == 1) v manner)))
stopped_bytes form manner (Command.erase b) m = blanked form m b manner 16

-- one rehearsed command fewer is left
abbrev pub taken : Held → Held
taken h = record { bytes = h.bytes; power = h.power; rehearsal = record { commands = h.rehearsal.commands - 1; manner = h.rehearsal.manner } }

-- power went
abbrev pub off : Held → Held
off h = record { bytes = h.bytes; power = false; rehearsal = h.rehearsal }

-- what a done command leaves, and what a stopped one leaves
abbrev pub after : Form → Command → Held → Held
after form c h = with_bytes (done_bytes form c h.bytes) (taken h)

-- power goes, and the numbers stay
abbrev pub broken : Form → Command → Held → Held
broken form c h = with_bytes (stopped_bytes form h.rehearsal.manner c h.bytes) (off h)

-- the answer and what is left, by the verdict of the flash rules: with rehearsed commands left the command is done, with none left power goes in it
abbrev pub answered : Form → Command → Held → Result (Unit {0}) FlashFault → Result (Unit {0}) FlashFault
answered form c h (Err f) = Err f
answered form c h (Ok _) = cond (nat_lt 0 h.rehearsal.commands) (Ok tt) (Err (loss form.kind c))

-- what is left, by the verdict
abbrev pub leaves : Form → Command → Held → Result (Unit {0}) FlashFault → Held
leaves form c h (Err f) = h
leaves form c h (Ok _) = cond (nat_lt 0 h.rehearsal.commands) (after form c h) (broken form c h)

-- the answer and what is left are just these
pub record Exact (form : Form) (c : Command) (h : Held) (r : Result (Unit {0}) FlashFault) (left : Held) : Type 0 where
  pub answer : r ≡ answered form c h (verdict form.kind c (meant form h))
  pub holds : left ≡ leaves form c h (verdict form.kind c (meant form h))
