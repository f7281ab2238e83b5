-- What the list of commands leaves.
use Rattle.flash.specs.Commands.{reached}
use Rattle.clearing.proofs.Freed.{mended_others, mended_freed}
use Rattle.clearing.proofs.mend.Goals as goal

pub returns : goal.returns
returns g c =
    let m = g.F.Flash.model in
    let refusal = reached m.kind (m.meaning c.args.flash.now) c.args.block.0 0 in
    record {
      told = c.run_mending.ensures;
      freed = mended_freed m refusal c.args.flash.now c.run_mending.new.flash c.args.block.0 c.run_mending.result c.run_mending.ensures;
      others = mended_others m refusal c.args.flash.now c.run_mending.new.flash c.args.block.0 c.run_mending.result c.run_mending.ensures;
    }
