-- The current records of the numbers below n are marked.
use Rattle.layout.specs.Plans.{sizes_of}
use Rattle.survey.proofs.Walks.{Used}
use Rattle.survey.proofs.used.mark_all.Given as goal

abbrev pub invariant-loop-n : goal.invariant-loop-n
invariant-loop-n g l = Used (g.F.Flash.model.meaning l.store.flash.now).count (g.F.Flash.model.meaning l.store.flash.now).word (sizes_of l.store.plan.now) l.n l.used
