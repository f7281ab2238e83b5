-- What clearing the groups that are left comes to from here is what clearing them all comes to.
use Rattle.std.proofs.Common.{◌≡◌, true, drop, Result}
use Rattle.flash.specs.declared.fault.FlashFault.{FlashFault}
use Rattle.flash.specs.Lists.{Given}
use Rattle.choice.specs.Choosing.{group_order}
use Rattle.decision.specs.Calls.{clearings}
use Rattle.unit.specs.Grouped.{of_groups}
use Rattle.unit.proofs.format.clear_groups.Given as goal

abbrev pub invariant-loop-group : goal.invariant-loop-group
invariant-loop-group g l =
    let m = g.F.Flash.model in
    let n = (m.meaning l.initial.flash).count in
    ((m.meaning l.flash).power ≡ true)
    × ((m.meaning l.flash).count ≡ n)
    × ((r : Result (Unit {0}) FlashFault) (y : _)
    → Given m (clearings (m.meaning l.flash).word (of_groups l.groups (drop l.group-index group_order) n)) l.flash r y
    → Given m (clearings (m.meaning l.initial.flash).word (of_groups l.groups group_order n)) l.initial.flash r y)
