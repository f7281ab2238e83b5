-- What the flash obeys that the block belongs to, the pair obeys.
use Rattle.std.proofs.Common.{refl, rules}
use Rattle.flash.specs.Commands.{erase}
use Rattle.pair.proofs.Seen.{first_seen, second_seen}
use Rattle.pair.proofs.PairFlash.erase.Goals as goal

pub returns-in-First : goal.returns-in-First
returns-in-First g c =
    first_seen g.A.Flash.model g.B.Flash.model c.args.self.now (erase c.args.block.0) (erase) c.erase.result c.raise.result
    c.in_ok-at.field-0 c.in-First.at c.in_ok-at.ensures (search rules) c.erase.new.self c.in-First.is refl c.erase.ensures

pub returns-in-Second : goal.returns-in-Second
returns-in-Second g c =
    second_seen g.A.Flash.model g.B.Flash.model c.args.self.now (erase c.args.block.0) (erase) c.erase-in-Second.result c.raise-in-Second.result
    c.in_ok-at.field-0 c.in-Second.at c.in_ok-at.ensures (search rules) c.erase-in-Second.new.self c.in-Second.is refl c.erase-in-Second.ensures
