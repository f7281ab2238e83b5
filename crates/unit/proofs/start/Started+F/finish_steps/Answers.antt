-- A step more, a step refused, and no step left.
use Rattle.std.proofs.Common.{◌<◌, ◌∙◌, arith}
use Rattle.decision.specs.Decisions.{Performs}
use Rattle.decision.specs.Calls.{to_step}
use Rattle.decision.proofs.Counted.{performs_count}
use Rattle.unit.proofs.Steps.{finishes_refused, finishes_more, past_ok, past_err}
use Rattle.unit.proofs.start.Started+F.finish_steps.Goals as goal

pub returns-in-Err : goal.returns-in-Err
returns-in-Err g c =
    let m = g.F.Flash.model in
    let e = c.in-Err.ensures in
    let below : c.loop.self.accepted < c.block_count-end.result = omega arith in
    let same = past_err (m.meaning c.loop.self.flash) c.loop.self.accepted c.step.new.self.accepted c.in-Err.fault (omega (arith, c.loop.invariant.1)) e.accepted in
    record {
      told =
          rw (c.ready.ensures.flash, c.ready.ensures.accepted, same)
          (c.loop.invariant.3 _ _ _ (finishes_refused (λ j. Performs m (to_step j)) c.block_count-end.result c.loop.self.accepted c.loop.self.flash c.step.new.self.flash c.in-Err.fault below e.told));
      plan = c.ready.ensures.plan ∙ e.plan ∙ c.loop.invariant.2;
    }

pub loop-preserved : goal.loop-preserved
loop-preserved g c =
    let m = g.F.Flash.model in
    let e = c.in_default.ensures in
    let below : c.loop.self.accepted < c.block_count-end.result = omega arith in
    let more = past_ok (m.meaning c.loop.self.flash) c.loop.self.accepted c.step.new.self.accepted tt (omega (arith, c.loop.invariant.1)) e.accepted in (
      omega (arith, more, c.loop.invariant.0),
      performs_count m (to_step c.loop.self.accepted) c.loop.self.flash c.step.new.self.flash _ e.told ∙ c.loop.invariant.1,
      e.plan ∙ c.loop.invariant.2,
      λ o i y f. c.loop.invariant.3 o i y
          (finishes_more (λ j. Performs m (to_step j)) c.block_count-end.result c.loop.self.accepted c.loop.self.flash c.step.new.self.flash y o i c.step.new.self.accepted below more e.told f),
    )
