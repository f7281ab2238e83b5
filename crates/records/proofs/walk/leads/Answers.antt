-- One block on.
use Rattle.std.proofs.Common.{arith}
use Rattle.layout.specs.Sizes.{followers}
use Rattle.records.proofs.Chains.{walk_on}
use Rattle.records.proofs.walk.leads.Goals as goal

pub loop-j-preserved : goal.loop-j-preserved
loop-j-preserved g c =
    let s = g.F.Flash.model.meaning c.args.flash.now in
    walk_on s.count s.word c.args.size c.args.first.0 c.loop-j.j (followers c.args.size) c.loop-j.at.0 _ c.loop-j.invariant
    _ c.chain-at.result.0 (omega arith) (omega arith) c.in_ok-block.ensures.1 c.if-not-is_following.ensures c.chain-at.ensures
