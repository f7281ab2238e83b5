-- One block on, and the whole table.
use Rattle.std.proofs.Common.{◌∙◌, arith}
use Rattle.layout.specs.States.{state}
use Rattle.layout.specs.Plans.{sizes_of}
use Rattle.records.proofs.Stood.{stood_none, stood_more}
use Rattle.survey.proofs.Entered.{settled_state}
use Rattle.survey.proofs.table.pass.look_over.Goals as goal

pub loop-b-init : goal.loop-b-init
loop-b-init g c = let s = g.F.Flash.model.meaning c.args.store.now.flash.now in stood_none (state s.count s.word (sizes_of c.args.store.now.plan.now)) _ c.none-survey.ensures

pub loop-b-preserved : goal.loop-b-preserved
loop-b-preserved g c =
    let s = g.F.Flash.model.meaning c.args.store.now.flash.now in
    let p = sizes_of c.args.store.now.plan.now in
    stood_more (state s.count s.word p) c.loop-b.b _ _ c.settled.result (omega (arith, c.in_ok-ask_power.ensures.shape.few)) c.loop-b.invariant
    (settled_state s.count s.word p c.loop-b.b c.standing.result c.settled.result c.contains.result (omega arith) (c.standing.ensures ∙ c.in_ok-found.ensures.2 c.loop-b.b)
    (c.contains.ensures ∙ c.in_ok-used.ensures.1 c.loop-b.b) c.settled.ensures) c.mark.ensures
