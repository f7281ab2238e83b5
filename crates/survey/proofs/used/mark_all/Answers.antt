-- One number on, and all of the plan's.
use Rattle.std.proofs.Common.{◌≡◌, arith}
use Rattle.layout.specs.Sizes.{numbers}
use Rattle.layout.specs.Plans.{sizes_of}
use Rattle.survey.proofs.Walks.{member_none, used_all}
use Rattle.survey.proofs.used.mark_all.Goals as goal

pub loop-n-init : goal.loop-n-init
loop-n-init g c b = member_none c.new-used.result b c.new-used.ensures

pub returns : goal.returns
returns g c =
    let s = g.F.Flash.model.meaning c.args.store.now.flash.now in
    let all : c.loop-n.n ≡ numbers (sizes_of c.args.store.now.plan.now) = omega arith in
    (c.in_ok-ask_power.ensures.answer.0, used_all s.count s.word (sizes_of c.args.store.now.plan.now) c.loop-n.n c.loop-n.used all c.loop-n.invariant)
