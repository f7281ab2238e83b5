-- What the flash obeys that the block belongs to, the pair obeys.
use Rattle.std.proofs.Common.{refl, rules}
use Rattle.flash.specs.Commands.{program}
use Rattle.pair.proofs.Seen.{first_seen, second_seen}
use Rattle.pair.proofs.PairFlash.program.Goals as goal

pub returns-in-First : goal.returns-in-First
returns-in-First g c =
    first_seen g.A.Flash.model g.B.Flash.model c.args.self.now (program c.args.block.0 c.args.word c.args.value) (λ b. program b c.args.word c.args.value) c.program.result c.raise.result
    c.in_ok-at.field-0 c.in-First.at c.in_ok-at.ensures (search rules) c.program.new.self c.in-First.is refl c.program.ensures

pub returns-in-Second : goal.returns-in-Second
returns-in-Second g c =
    second_seen g.A.Flash.model g.B.Flash.model c.args.self.now (program c.args.block.0 c.args.word c.args.value) (λ b. program b c.args.word c.args.value) c.program-in-Second.result c.raise-in-Second.result
    c.in_ok-at.field-0 c.in-Second.at c.in_ok-at.ensures (search rules) c.program-in-Second.new.self c.in-Second.is refl c.program-in-Second.ensures
