-- The table that was filled has the sizes that were given.
use Rattle.std.proofs.Common.{rules, arith}
use borrow.Author.Tests.{tests}
use Rattle.std.proofs.lemmas.Grind.{common_steps}
use Rattle.std.proofs.lemmas.Iterator.{cases_from_all, YieldsList-from_slice}
use Rattle.layout.specs.Sizes.{Planned}
use Rattle.layout.proofs.Planning.{filled_front, IsSize, IsNoSize, not_planned}
use Rattle.layout.proofs.plan.Plan.new.Goals as goal

pub returns-then-not-all : goal.returns-then-not-all
returns-then-not-all c =
    not_planned c.args.sizes.now
    (cases_from_all _ _ _ IsSize IsNoSize c.if-not-all.ensures.ran (YieldsList-from_slice c.args.sizes.now (cc)) (λ x q k. search (rules, tests)) (λ x q k. search (rules, tests)))

pub returns : goal.returns
returns c =
    let sized = cases_from_all _ _ _ IsSize IsNoSize c.if-not-all.ensures.ran (YieldsList-from_slice c.args.sizes.now (cc)) (λ x q k. search (rules, tests)) (λ x q k. search (rules, tests)) in
    let planned : Planned c.args.sizes.now = record { some = let e = c.is_empty.ensures in let f = c.if-is_empty.false in grind (arith, common_steps); few = omega arith; sized = λ n below. sized n 0 (omega arith) below } in
    (filled_front c.args.sizes.now c.copy_from_slice.new.self c.copy_from_slice.ensures.after, planned)
