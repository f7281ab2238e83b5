-- What the flash below obeys, the part obeys.
use Rattle.std.proofs.Common.{refl, rules}
use Rattle.flash.specs.Commands.{erase}
use Rattle.part.proofs.Seen.{command_seen}
use Rattle.part.proofs.PartFlash.erase.Goals as goal

pub returns : goal.returns
returns g c =
    command_seen g.F.Flash.model c.args.self.now c.erase.new.self c.in_ok-at.at c.erase.result c.raise.result
    (erase c.args.block.0) (erase) c.in_ok-at.ensures refl (search rules) c.erase.ensures
