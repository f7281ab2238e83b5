-- The memory is the one that the format left, under the flash's own vector.
use Rattle.std.proofs.Common.{ap, ◌∙◌, rules}
use Rattle.std.proofs.lemmas.List.{with_items_is}
use Rattle.simulated.specs.Flashes.{held}
use Rattle.simulated.specs.Rehearsed.{with_bytes}
use Rattle.simulated.proofs.Simulated.put.Goals as goal

pub returns : goal.returns
returns g c =
    ap (λ m. with_bytes m (held c.args.self.now)) (with_items_is c.args.self.now.memory c.put.new.memory (search rules) ∙ search rules)
