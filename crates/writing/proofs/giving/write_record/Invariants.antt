-- Whatever the blocks that are left give from here, the whole record gives from the start.
use Rattle.std.proofs.Common.{Result}
use Rattle.flash.specs.declared.fault.FlashFault.{FlashFault}
use Rattle.flash.specs.Lists.{Tried}
use Rattle.writing.specs.Listed.{numbers_of, listed}
use Rattle.writing.specs.Writing.{next_of, first_commands_by_size, record_on}
use Rattle.writing.proofs.Steps.{left}
use Rattle.writing.proofs.giving.write_record.Given as goal

abbrev pub invariant-loop-j : goal.invariant-loop-j
invariant-loop-j g l =
    let x = l.record in
    (r : Result (Unit {0}) FlashFault) (y : g.row.F.Denot)
    → Tried g.F.Flash.model (left x.size l.first l.data l.following (first_commands_by_size x.size x.number.0 x.serial l.data l.first.0 (next_of l.first.0 (numbers_of l.following))) l.j) l.flash r y
    → Tried g.F.Flash.model (record_on x.size x.number.0 x.serial l.data (listed x.blocks)) l.initial.flash r y
