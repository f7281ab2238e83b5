-- One block is set behind the last.
use Rattle.std.proofs.Common.{length, sym, ap, ◌∙◌, arith, rules}
use Rattle.std.proofs.lemmas.List.{take_more_set, map_push, length-map, length-take}
use Rattle.std.proofs.lemmas.Bool.{lt-ltb}
use Rattle.flash.specs.declared.BlockNumber.{BlockNumber}
use Rattle.writing.specs.Listed.{blocks_of, numbers_of, listed}
use Rattle.writing.proofs.blocks.Blocks.push.Goals as goal

pub returns : goal.returns
returns c =
    let x = c.args.self.now in
    let block = c.args.block in
    record {
      answer = sym (lt-ltb (length (listed x)) 20 (omega (arith, length-map (blocks_of x) (λ (b : BlockNumber). b.0), length-take x.len x.blocks)));
      blocks = ap numbers_of (take_more_set x.blocks x.len block (search rules)) ∙ map_push (λ (b : BlockNumber). b.0) (blocks_of x) block;
    }
