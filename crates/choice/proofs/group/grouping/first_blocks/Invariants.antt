-- The first blocks of the current records of the numbers below n are marked.
use Rattle.std.proofs.Common.{◌≡◌, ℕ, ◌<◌}
use Rattle.survey.specs.Sets.{member}
use Rattle.choice.specs.Tables.{first_in}
use Rattle.choice.proofs.group.grouping.first_blocks.Given as goal

abbrev pub invariant-loop-n : goal.invariant-loop-n
invariant-loop-n l = (b : ℕ) → b < 256 → member l.firsts.marks b ≡ first_in l.heads l.n b
