-- Whatever the words that are left give from here, all of them give from the start.
use Rattle.std.proofs.Common.{◌-◌, Result}
use Rattle.flash.specs.declared.fault.FlashFault.{FlashFault}
use Rattle.flash.specs.Lists.{Tried}
use Rattle.writing.specs.Writing.{programs}
use Rattle.writing.proofs.Steps.{words_from}
use Rattle.writing.proofs.giving.program_words.Given as goal

abbrev pub invariant-loop-w : goal.invariant-loop-w
invariant-loop-w g l =
    (r : Result (Unit {0}) FlashFault) (y : g.row.F.Denot)
    → Tried g.F.Flash.model (words_from l.block.0 l.bytes l.w (l.count - l.w)) l.flash r y
    → Tried g.F.Flash.model (programs l.block.0 l.bytes l.count) l.initial.flash r y
