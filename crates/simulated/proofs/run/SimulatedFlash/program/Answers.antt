-- The flash rules follow from what the program did exactly.
use Rattle.std.proofs.Common.{rules}
use Rattle.flash.specs.Commands.{Command}
use Rattle.simulated.proofs.Obeyed.{obeyed}
use Rattle.simulated.proofs.run.SimulatedFlash.program.Goals as goal

pub returns : goal.returns
returns g c =
    let did = c.run_program.ensures in
    record {
      rules = obeyed g.F.Format.form g.met.F.Format.lawful (Command.program c.args.block.0 c.args.word c.args.value) c.args.self.now c.run_program.new.self c.run_program.result (search rules, did.fits) did.exact did.same;
      exact = did.exact;
    }
