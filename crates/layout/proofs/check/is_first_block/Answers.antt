-- The goals that the tests alone do not decide.
use Rattle.std.proofs.Common.{arith}
use Rattle.std.proofs.lemmas.Bool.Decides.{nat_tests}
use Rattle.layout.specs.Sound.{candidate, coded}
use Rattle.layout.specs.Plans.{sizes_of}
use Rattle.layout.specs.Reads.{words_of}
use Rattle.layout.proofs.Firsts.{fields_told, not_first}
use Rattle.layout.proofs.check.is_first_block.Goals as goal

pub returns-in_default-fields : goal.returns-in_default-fields
returns-in_default-fields c = not_first (sizes_of c.args.plan.now) c.args.number.0 (words_of c.args.block.now) c.in_default-fields.ensures

pub returns-else-not-written : goal.returns-else-not-written
unfolding candidate coded
returns-else-not-written c =
    let size = c.in-Some.ensures.answer in
    let fields = fields_told (words_of c.args.block.now) _ c.in-Some-fields.ensures in
    grind (arith, nat_tests)
