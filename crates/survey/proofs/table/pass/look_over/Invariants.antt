-- The blocks below b have their entries.
use Rattle.layout.specs.States.{state}
use Rattle.layout.specs.Plans.{sizes_of}
use Rattle.records.proofs.Stood.{Stood}
use Rattle.survey.proofs.table.pass.look_over.Given as goal

abbrev pub invariant-loop-b : goal.invariant-loop-b
invariant-loop-b g l = let s = g.F.Flash.model.meaning l.store.flash.now in Stood (state s.count s.word (sizes_of l.store.plan.now)) l.b l.survey.entries
