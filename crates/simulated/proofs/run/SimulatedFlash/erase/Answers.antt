-- The flash rules follow from what the erase did exactly.
use Rattle.flash.specs.Commands.{Command}
use Rattle.simulated.proofs.Obeyed.{obeyed}
use Rattle.simulated.proofs.run.SimulatedFlash.erase.Goals as goal

pub returns : goal.returns
returns g c =
    let did = c.run_erase.ensures in
    record {
      rules = obeyed g.F.Format.form g.met.F.Format.lawful (Command.erase c.args.block.0) c.args.self.now c.run_erase.new.self c.run_erase.result tt did.exact did.same;
      exact = did.exact;
    }
