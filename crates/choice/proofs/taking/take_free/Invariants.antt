-- The list has the blocks that the chain gave so far.
use Rattle.std.proofs.Common.{◌≡◌}
use Rattle.writing.specs.Listed.{numbers_of, listed}
use Rattle.choice.proofs.taking.take_free.Given as goal

abbrev pub invariant-loop-block : goal.invariant-loop-block
invariant-loop-block l = listed l.blocks ≡ numbers_of l.yielded
