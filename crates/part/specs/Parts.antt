-- Kind 3, a part: n blocks of a flash from block a on, with that flash's power.
--     part_count a n s       how many blocks the part has; none where it would go beyond the flash
--     part_state a n s       what the part means, over a flash that means s
--     shifted a c            the command to the flash below
--     over z x               the part x with z as the flash below
--     partial model          what a part says of itself
--     part_check a n s       whether a flash has these blocks
use Rattle.std.specs.Prelude.{◌≡◌, ℕ, ◌+◌, cond, None, Ok, Err, Result, nat_le, nat_lt}
use Rattle.flash.specs.declared.fault.Cause.TheVariants.{Making}
use Rattle.flash.specs.declared.fault.FlashFault.{FlashFault}
use Rattle.flash.specs.Faults.{fault}
use Rattle.flash.specs.State.{State}
use Rattle.flash.specs.Commands.{Command, program, erase}
use Rattle.flash.specs.Rules.{Model, Done, Lost, Returned}
use Rattle.part.specs.declared.Part.{Part}

-- its own n, where the flash below has that many from block a on
abbrev pub part_count : ℕ → ℕ → State → ℕ
part_count a n s = cond (nat_le (a + n) s.count) n 0

-- block b of the part is block a + b of the flash below
abbrev pub part_state : ℕ → ℕ → State → State
part_state a n s = record {
  count = part_count a n s;
  power = s.power;
  word = λ b w. cond (nat_lt b (part_count a n s)) (s.word (a + b) w) None;
}

-- the same command, at the block of the flash below
abbrev pub shifted : ℕ → Command → Command
shifted a (program b w v) = program (a + b) w v
shifted a (erase b) = erase (a + b)

-- nothing of a part changes but the flash below
abbrev pub over : {F : Type 0} → F → Part F → Part F
over z x = record { below = z; first = x.first; blocks = x.blocks }

-- a command or a return of power is one of the flash below, and nothing else changes
abbrev pub partial : {F : Type 0} → Model F → Model (Part F)
partial model = record {
  kind = 3;
  meaning = λ x. part_state x.first.0 x.blocks (model.meaning x.below);
  did = λ c x y. Done model (shifted x.first.0 c) x.below y.below × (y ≡ over y.below x);
  lost = λ c x y. Lost model (shifted x.first.0 c) x.below y.below × (y ≡ over y.below x);
  returned = λ rehearsal x y. Returned model rehearsal x.below y.below × (y ≡ over y.below x);
}

-- a part that goes beyond its flash is refused
abbrev pub part_check : ℕ → ℕ → State → Result (Unit {0}) FlashFault
part_check a n s = cond (nat_le (a + n) s.count) (Ok tt) (Err (fault Making 3 0 0))
