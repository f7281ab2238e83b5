-- The words below w have been read.
use Rattle.records.proofs.Sixteen.{Reading}
use Rattle.records.proofs.reading.read_block.Given as goal

abbrev pub invariant-loop-w : goal.invariant-loop-w
invariant-loop-w g l = Reading (g.F.Flash.model.meaning l.flash) l.block.0 l.w l.words
