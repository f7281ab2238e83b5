-- The words below w have been made blank where they are marked.
use Rattle.std.proofs.Common.{◌≡◌}
use Rattle.simulated.specs.Flashes.{held}
use Rattle.simulated.specs.Rehearsed.{with_bytes, blanked}
use Rattle.simulated.proofs.Simulated.blank.Given as goal

abbrev pub invariant-loop-w : goal.invariant-loop-w
invariant-loop-w g l =
    held l.self ≡ with_bytes (blanked g.F.Format.form (held l.initial.self).bytes l.block.0 l.marks l.w) (held l.initial.self)
