-- The two commands of a flash: when one is refused, what it does when it is done, and what it may leave when power goes in it.
--     Command            a program of a word, or an erase of a block
--     block_of, word_of  the place of a command
--     reached k s b w    whether a flash of kind k in state s refuses the place
--     looked k s b w     what a look answers
--     verdict k c s      whether a flash of kind k in state s refuses c, and with which fault
--     done c s           the state after c
--     Stopped c s t      t may be left where power goes inside c
--     loss k c           the fault of a command in which power went
use Rattle.std.specs.Prelude.{◌≡◌, ℕ, Bool, false, cond, Some, None, Ok, Err, Option, Result, nat_lt}
use Rattle.flash.specs.declared.fault.Cause.TheVariants.{Power, Block, Word, Written}
use Rattle.flash.specs.declared.fault.FlashFault.{FlashFault}
use Rattle.flash.specs.Faults.{fault, unpowered}
use Rattle.flash.specs.State.{State, Memory, Word4, put, wipe, fade, powered}

-- program block, word, value; erase block
pub data Command : Type 0 where
  program : ℕ → ℕ → ℕ → Command
  erase : ℕ → Command

-- the place of a command; an erase has no word, and word 0 stands for it
abbrev pub block_of : Command → ℕ
block_of (program b w v) = b
block_of (erase b) = b

-- 0 stands for the word of an erase
abbrev pub word_of : Command → ℕ
word_of (program b w v) = w
word_of (erase b) = 0

-- the refusals that look, program and erase share, in their order: power, block, word; then what is left to say
abbrev pub allowed : {X : Type 0} → ℕ → State → ℕ → ℕ → Result X FlashFault → Result X FlashFault
allowed k s b w rest =
    cond s.power (cond (nat_lt b s.count) (cond (nat_lt w 16) rest (Err (fault Word k b w))) (Err (fault Block k b w))) (Err (unpowered k))

-- whether a place is refused
abbrev pub reached : ℕ → State → ℕ → ℕ → Result (Unit {0}) FlashFault
reached k s b w = allowed k s b w (Ok tt)

-- a look answers what the word holds
abbrev pub looked : ℕ → State → ℕ → ℕ → Result (Option ℕ) FlashFault
looked k s b w = allowed k s b w (Ok (s.word b w))

-- only a blank word may be programmed
abbrev pub unwritten : ℕ → ℕ → ℕ → Option ℕ → Result (Unit {0}) FlashFault
unwritten k b w None = Ok tt
unwritten k b w (Some v) = Err (fault Written k b w)

-- whether a command is refused, and with which fault
abbrev pub verdict : ℕ → Command → State → Result (Unit {0}) FlashFault
verdict k (program b w v) s = allowed k s b w (unwritten k b w (s.word b w))
verdict k (erase b) s = reached k s b 0

-- a program writes its word; an erase makes its block blank
abbrev pub applied : Command → Memory → Memory
applied (program b w v) m = put m b w (Some v)
applied (erase b) m = wipe m b

-- nothing else changes, and power stays
abbrev pub done : Command → State → State
done c s = powered s.power s (applied c s.word)

-- a stopped program leaves its word blank, as given, or written with some four bytes; a stopped erase leaves each word of its block as it was or blank; all other words stay, and power is off
abbrev pub Stopped : Command → State → State → Type 0
Stopped (program b w v) s t = (left : Option ℕ) × Word4 left × (t ≡ powered false s (put s.word b w left))
Stopped (erase b) s t = (marked : ℕ → Bool) × (t ≡ powered false s (fade s.word b marked))

-- the fault of a command in which power went has the command's place
abbrev pub loss : ℕ → Command → FlashFault
loss k c = fault Power k (block_of c) (word_of c)
