-- What the list of commands leaves.
use Rattle.flash.specs.Commands.{reached}
use Rattle.clearing.proofs.Freed.{cleared_others, cleared_freed}
use Rattle.clearing.proofs.clear.Goals as goal

pub returns : goal.returns
returns g c =
    let m = g.F.Flash.model in
    let refusal = reached m.kind (m.meaning c.args.flash.now) c.args.block.0 14 in
    record {
      told = c.run_clearing.ensures;
      freed = cleared_freed m refusal c.args.flash.now c.run_clearing.new.flash c.args.block.0 c.run_clearing.result c.run_clearing.ensures;
      others = cleared_others m refusal c.args.flash.now c.run_clearing.new.flash c.args.block.0 c.run_clearing.result c.run_clearing.ensures;
    }
