-- One more word is the next clause of `blanked`.
use Rattle.std.proofs.Common.{rules}
use Rattle.simulated.proofs.Blanked.{blanked_none, blanked_more}
use Rattle.simulated.specs.Flashes.{held}
use Rattle.simulated.proofs.Simulated.blank.Goals as goal
use Rattle.simulated.proofs.Simulated.blank.Goals.{then-marks-w-eq1, else-marks-w-eq1}

pub loop-w-init : goal.loop-w-init
loop-w-init g c = search (rules, blanked_none)

pub loop-w-preserved : goal.loop-w-preserved
loop-w-preserved g c =
    let e = blanked_more g.F.Format.form (held c.args.self.now).bytes c.args.block.0 c.args.marks c.loop-w.w in
    elim c.if-marks-w-eq1.branch [ then-marks-w-eq1 w ↦ search rules | else-marks-w-eq1 w ↦ search rules ]
