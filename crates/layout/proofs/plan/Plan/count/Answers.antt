-- A plan's invariant is that its sizes are planned.
use Rattle.std.proofs.Common.{sym}
use Rattle.layout.proofs.Planning.{front_numbers, front_planned}
use Rattle.layout.proofs.plan.Plan.count.Goals as goal

pub returns : goal.returns
returns c =
    let p = c.args.self.now in
    record { count = sym (front_numbers p.sizes p.count p.whole p.few); planned = front_planned p.sizes p.count p.whole p.few p.some p.sized }
