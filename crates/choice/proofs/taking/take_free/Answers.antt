-- One block more, and at the end all that the chain gives.
use Rattle.std.proofs.Common.{◌<◌, min, length, filter, length-take, ◌∙◌, arith, rules, tests}
use Rattle.std.proofs.lemmas.Iterator.{YieldsList-from_take}
use Rattle.std.proofs.lemmas.Iterator.Consumers.{YieldsList-at, YieldsList-from_first, YieldsList-from_filter, YieldsList-turn, YieldsList-end}
use Rattle.writing.specs.Listed.{listed}
use Rattle.choice.specs.declared.round.Purpose.TheVariants.{Writing}
use Rattle.choice.specs.Tables.{suited, round_of, blocks_left}
use Rattle.choice.proofs.Takes.{taken_more}
use Rattle.choice.proofs.taking.take_free.Goals as goal

pub loop-block-preserved : goal.loop-block-preserved
loop-block-preserved c =
    let free = suited Writing c.args.survey.now in
    let most = min c.args.need 20 in
    let turn =
    YieldsList-turn
    (YieldsList-at c.into_iter-block-iterator.ensures.into_iter_gives
    (YieldsList-from_take most
    (YieldsList-at c.take-free.ensures.source
    (YieldsList-from_filter _ free
    (YieldsList-at c.filter.ensures.source (YieldsList-from_first (λ b. b.0) blocks_left (round_of c.args.round) (cc)))
    c.filter.ensures.closure (λ x b q k. search (rules, tests))))
    (omega (arith, c.take-free.ensures.count, c.min.ensures))))
    c.loop-block.yielded c.loop-block.block-iterator c.loop-block.yielded_by c.next.result c.next.new.self c.in-Some.block c.in-Some.is c.next.ensures.steps in
    let few : length c.loop-block.yielded < 20 = omega (arith, turn.0, length-take most (filter free (round_of c.args.round))) in
    taken_more (listed c.loop-block.blocks) (listed c.push.new.self) c.loop-block.yielded c.in-Some.block c.push.result c.loop-block.invariant few c.push.ensures.answer c.push.ensures.blocks

pub returns : goal.returns
returns c =
    let free = suited Writing c.args.survey.now in
    let most = min c.args.need 20 in
    let end =
    YieldsList-end
    (YieldsList-at c.into_iter-block-iterator.ensures.into_iter_gives
    (YieldsList-from_take most
    (YieldsList-at c.take-free.ensures.source
    (YieldsList-from_filter _ free
    (YieldsList-at c.filter.ensures.source (YieldsList-from_first (λ b. b.0) blocks_left (round_of c.args.round) (cc)))
    c.filter.ensures.closure (λ x b q k. search (rules, tests))))
    (omega (arith, c.take-free.ensures.count, c.min.ensures))))
    c.loop-block.yielded c.loop-block.block-iterator c.loop-block.yielded_by c.next.result c.next.new.self c.in-None.is c.next.ensures.steps in
    c.loop-block.invariant ∙ end.0
