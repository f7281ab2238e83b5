-- The marks, and then each guard, decide the state.
use Rattle.std.proofs.Common.{true, false, refl}
use Rattle.layout.specs.Reads.{words_of}
use Rattle.records.proofs.Erased.{not_half, is_clean, stated_as}
use Rattle.records.proofs.state.state_of.Goals as goal

pub returns-in-None-Some : goal.returns-in-None-Some
returns-in-None-Some c =
    let m = words_of c.args.block.now in
    stated_as m false true c.args.in_use _ (not_half m _ c.in-None-Some.ensures c.in-None-Some.ensures') (is_clean m true c.if-all_blank.ensures) refl

pub returns-in-None-Some-2 : goal.returns-in-None-Some-2
returns-in-None-Some-2 c =
    let m = words_of c.args.block.now in
    stated_as m false false true _ (not_half m _ c.in-None-Some.ensures c.in-None-Some.ensures') (is_clean m false c.if-all_blank.ensures) c.if-in_use.true

pub returns-in-None-Some-3 : goal.returns-in-None-Some-3
returns-in-None-Some-3 c =
    let m = words_of c.args.block.now in
    stated_as m false false false _ (not_half m _ c.in-None-Some.ensures c.in-None-Some.ensures') (is_clean m false c.if-all_blank.ensures) c.if-in_use.false
