-- The first one of the round that is of use.
use Rattle.std.proofs.Common.{rules, tests}
use Rattle.std.proofs.lemmas.Iterator.Consumers.{YieldsList-from_first}
use Rattle.std.proofs.lemmas.Iterator.Search.{find_from_yields_List}
use Rattle.choice.specs.Tables.{suited, round_of, blocks_left}
use Rattle.choice.proofs.Finds.{first_found}
use Rattle.choice.proofs.finding.find.Goals as goal

pub returns : goal.returns
returns c =
    let of_use = suited c.args.purpose c.args.survey.now in
    first_found of_use (round_of c.args.round) c.find.result
    (find_from_yields_List of_use c.find.new.self _ c.find.result c.find.ensures.ran
    (YieldsList-from_first (λ b. b.0) blocks_left (round_of c.args.round) (cc))
    (λ x b q k. search (rules, tests)))
