-- The following blocks below j have been copied.
use Rattle.std.proofs.Common.{ℕ}
use Rattle.layout.specs.Sizes.{followers}
use Rattle.layout.specs.Records.{data_from}
use Rattle.values.proofs.Copies.{Filled}
use Rattle.values.proofs.copy_following.Given as goal

abbrev pub invariant-loop-j : goal.invariant-loop-j
invariant-loop-j g l =
    (b : ℕ) × Filled (g.F.Flash.model.meaning l.flash).count (g.F.Flash.model.meaning l.flash).word l.size b l.initial.out
    (data_from (g.F.Flash.model.meaning l.flash).word l.size 0 l.initial.at.0 (followers l.size)) l.j l.at.0 l.out
