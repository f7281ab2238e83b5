-- The counts of the table are those of the blocks.
use Rattle.std.proofs.Common.{◌∙◌}
use Rattle.layout.specs.Plans.{sizes_of}
use Rattle.survey.proofs.Tallied.{tally_counted}
use Rattle.survey.proofs.found.count_states.Goals as goal

pub returns : goal.returns
returns g c =
    let s = g.F.Flash.model.meaning c.args.store.now.flash.now in
    let table = c.in_ok-states.ensures in (
      table.0,
      c.counts.ensures ∙ tally_counted s.count s.word (sizes_of c.args.store.now.plan.now) c.in_ok-states.states table.1 c.in_ok-ask_power.ensures.shape.few,
    )
