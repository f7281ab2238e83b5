-- What the flash below obeys, the part obeys.
use Rattle.std.proofs.Common.{refl, rules}
use Rattle.flash.specs.Commands.{program}
use Rattle.part.proofs.Seen.{command_seen}
use Rattle.part.proofs.PartFlash.program.Goals as goal

pub returns : goal.returns
returns g c =
    command_seen g.F.Flash.model c.args.self.now c.program.new.self c.in_ok-at.at c.program.result c.raise.result
    (program c.args.block.0 c.args.word c.args.value) (λ b. program b c.args.word c.args.value) c.in_ok-at.ensures refl (search rules) c.program.ensures
