-- One group on, and a group in whose clearing power went.
use Rattle.std.proofs.Common.{get_or, Ok, Err, ◌∙◌}
use Rattle.std.proofs.lemmas.Result.{err_from_is_err_and}
use Rattle.choice.specs.declared.group.Group.TheVariants.{HalfErased}
use Rattle.choice.specs.Choosing.{group_order}
use Rattle.unit.specs.Grouped.{of_group}
use Rattle.unit.proofs.Formatting.{stays_on, same_count, next_more, next_cut, groups_end}
use Rattle.unit.proofs.format.clear_groups.Goals as goal

pub returns-in_err-clear_group : goal.returns-in_err-clear_group
returns-in_err-clear_group g c =
    let m = g.F.Flash.model in
    let x = c.loop-group.flash in
    let f = c.in_err-clear_group.field-0.0 in
    let cut = next_cut m c.args.groups.now group_order c.loop-group.group-index (m.meaning c.args.flash.now).count HalfErased c.loop-group-test.true
    (m.meaning x).count c.loop-group.invariant.1 x c.clear_group.new.flash f c.in_err-clear_group.ensures in
    let e = err_from_is_err_and c.from_residual.result c.from_residual.ensures.1 in
    rw (e.1, e.2) (c.loop-group.invariant.2 (Err f) c.clear_group.new.flash cut)

pub loop-group-preserved : goal.loop-group-preserved
loop-group-preserved g c =
    let m = g.F.Flash.model in
    let x = c.loop-group.flash in
    let z = c.clear_group.new.flash in
    let t = c.args.groups.now in
    let i = c.loop-group.group-index in
    let done = c.in_ok-clear_group.ensures in
    let bs = of_group t (get_or group_order i HalfErased) (m.meaning x).count in (
      stays_on m bs x z done ∙ c.loop-group.invariant.0,
      same_count m bs x z done ∙ c.loop-group.invariant.1,
      λ r y h. c.loop-group.invariant.2 r y
          (next_more m t group_order i (m.meaning c.args.flash.now).count HalfErased c.loop-group-test.true (m.meaning x).count c.loop-group.invariant.1 x z y r done h),
    )

pub returns : goal.returns
returns g c =
    let m = g.F.Flash.model in
    c.loop-group.invariant.2 (Ok tt) c.loop-group.flash
    (groups_end m c.args.groups.now group_order c.loop-group.group-index (m.meaning c.args.flash.now).count c.loop-group.flash c.loop-group-test.false)
