-- One byte on, and the whole buffer.
use Rattle.std.proofs.Common.{length, arith}
use Rattle.std.proofs.lemmas.List.Edits.{paste_none}
use Rattle.layout.specs.Fields.{bytes}
use Rattle.layout.specs.Reads.{words_of}
use Rattle.values.proofs.Copies.{front_more, front_whole}
use Rattle.values.proofs.copy_bytes.Goals as goal

pub loop-i-init : goal.loop-i-init
loop-i-init c = paste_none c.args.out.now 0 (bytes (words_of c.args.block.now) c.args.from (length c.args.out.now))

pub loop-i-preserved : goal.loop-i-preserved
loop-i-preserved c =
    front_more c.args.out.now (words_of c.args.block.now) c.args.from c.loop-i.i c.byte.result c.loop-i.out (omega arith) c.loop-i.invariant c.byte.ensures

pub returns : goal.returns
returns c = front_whole (words_of c.args.block.now) c.args.from c.loop-i.i c.args.out.now c.loop-i.out (omega arith) c.loop-i.invariant
