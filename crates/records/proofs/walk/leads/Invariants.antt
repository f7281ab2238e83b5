-- What is left of the walk decides the whole.
use Rattle.std.proofs.Common.{◌≡◌, ◌-◌}
use Rattle.layout.specs.Sizes.{followers}
use Rattle.layout.specs.Sound.{leads}
use Rattle.records.proofs.walk.leads.Given as goal

abbrev pub invariant-loop-j : goal.invariant-loop-j
invariant-loop-j g l =
    leads (g.F.Flash.model.meaning l.flash).count (g.F.Flash.model.meaning l.flash).word l.size l.first.0 0 l.initial.at.0 (followers l.size)
    ≡ leads (g.F.Flash.model.meaning l.flash).count (g.F.Flash.model.meaning l.flash).word l.size l.first.0 l.j l.at.0 (followers l.size - l.j)
