-- One block on, and the whole chain.
use Rattle.std.proofs.Common.{arith}
use Rattle.records.proofs.Sixteen.{not_refused}
use Rattle.survey.proofs.Walks.{walk_below, walk_more}
use Rattle.survey.proofs.used.mark_following.Goals as goal

pub returns-in_err-block : goal.returns-in_err-block
returns-in_err-block g c =
    let s = g.F.Flash.model.meaning c.args.flash.now in
    absurd (not_refused _ s c.loop-j.at.0 _ c.in_ok-ask_power.ensures.answer.0 (walk_below s.count s.word c.args.size _ _ _ _ _ c.loop-j.invariant (omega arith)) c.in_err-block.ensures)

pub loop-j-preserved : goal.loop-j-preserved
loop-j-preserved g c =
    let s = g.F.Flash.model.meaning c.args.flash.now in
    walk_more s.count s.word c.args.size _ _ _ _ _ c.loop-j.invariant (omega arith) _ _ _ c.in_ok-ask_power.ensures.shape.few c.in_ok-block.ensures.1 c.chain-at.ensures c.insert.ensures
