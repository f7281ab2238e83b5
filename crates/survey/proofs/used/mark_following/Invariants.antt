-- The walk has come to following block j.
use Rattle.survey.proofs.Walks.{Walk}
use Rattle.survey.proofs.used.mark_following.Given as goal

abbrev pub invariant-loop-j : goal.invariant-loop-j
invariant-loop-j g l =
    Walk (g.F.Flash.model.meaning l.flash).count (g.F.Flash.model.meaning l.flash).word l.size l.initial.at.0 l.initial.used l._j l.at.0 l.used
