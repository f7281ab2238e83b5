-- The bytes before the next one are copied.
use Rattle.std.proofs.Common.{◌≡◌, length}
use lib.Seq.{paste}
use Rattle.layout.specs.Fields.{bytes}
use Rattle.layout.specs.Reads.{words_of}
use Rattle.values.proofs.copy_bytes.Given as goal

abbrev pub invariant-loop-i : goal.invariant-loop-i
invariant-loop-i l = l.out ≡ paste l.initial.out 0 (bytes (words_of l.block) l.from (length l.initial.out)) l.i
