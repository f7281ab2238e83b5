-- What clearing the blocks that are left comes to from here is what clearing them all comes to.
use Rattle.std.proofs.Common.{◌≡◌, ◌-◌, true, filter, Result}
use Rattle.std.specs.List.{range_with_len}
use Rattle.flash.specs.declared.fault.FlashFault.{FlashFault}
use Rattle.flash.specs.Lists.{Given}
use Rattle.decision.specs.Calls.{clearings}
use Rattle.unit.specs.Grouped.{has_group, of_group}
use Rattle.unit.proofs.format.clear_group.Given as goal

abbrev pub invariant-loop-b : goal.invariant-loop-b
invariant-loop-b g l =
    let m = g.F.Flash.model in
    ((m.meaning l.flash).power ≡ true)
    × ((m.meaning l.flash).count ≡ l.b-end)
    × ((r : Result (Unit {0}) FlashFault) (y : _)
    → Given m (clearings (m.meaning l.flash).word (filter (has_group l.groups l.group) (range_with_len l.b (l.b-end - l.b)))) l.flash r y
    → Given m (clearings (m.meaning l.initial.flash).word (of_group l.groups l.group l.b-end)) l.initial.flash r y)
