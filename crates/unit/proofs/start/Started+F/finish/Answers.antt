-- What becomes of the meaning.
use Rattle.std.proofs.Common.{◌-◌}
use Rattle.decision.proofs.Means.{finishes_means}
use Rattle.unit.proofs.start.Started+F.finish.Goals as goal

pub returns : goal.returns
returns g c =
    let m = g.F.Flash.model in
    let x = c.args.self in
    let r = c.finish_steps.result in
    record {
      told = c.finish_steps.ensures.told;
      does = finishes_means m ((m.meaning x.flash).count - x.accepted) x.accepted x.flash r.1 r.0.accepted r.0.flash c.finish_steps.ensures.told;
      plan = c.finish_steps.ensures.plan;
    }
