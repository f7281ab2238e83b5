-- The first block, and then the chain.
use Rattle.std.proofs.Common.{sym, ◌∙◌}
use Rattle.layout.specs.Sizes.{followers}
use Rattle.layout.specs.Records.{chained}
use Rattle.layout.specs.States.{holds}
use Rattle.layout.specs.Plans.{sizes_of}
use Rattle.records.proofs.Sixteen.{not_refused}
use Rattle.survey.proofs.Walks.{marks_weaker, head_below, chain_below, record_marked}
use Rattle.survey.proofs.used.mark_record.Goals as goal

pub returns-in_err-block : goal.returns-in_err-block
returns-in_err-block g c =
    let s = g.F.Flash.model.meaning c.args.store.now.flash.now in
    absurd (not_refused _ s c.in-Some.head.block.0 _ c.in_ok-ask_power.ensures.answer.0
    (head_below s.count s.word (sizes_of c.args.store.now.plan.now) c.args.number.0 c.in-Some.head (sym c.in-Some.is ∙ c.requires.current)) c.in_err-block.ensures)

pub mark_following-requires : goal.mark_following-requires
mark_following-requires g c =
    let s = g.F.Flash.model.meaning c.args.store.now.flash.now in
    chain_below s.count s.word (sizes_of c.args.store.now.plan.now) c.args.number.0 c.in-Some.head (sym c.in-Some.is ∙ c.requires.current) _ _ _ c.in_ok-block.ensures.1 c.chain.ensures c.in-Some-size.ensures.answer.1

pub returns : goal.returns
returns g c =
    let s = g.F.Flash.model.meaning c.args.store.now.flash.now in
    marks_weaker _ s c.args.used.now c.insert.new.self c.mark_following.new.used (holds (chained s.word c.chain.result.0 (followers c.in-Some-size.size))) _ c.mark_following.result
    (record_marked s.count s.word (sizes_of c.args.store.now.plan.now) c.args.number.0 c.in-Some.head (sym c.in-Some.is ∙ c.requires.current) _ _ _ c.args.used.now c.insert.new.self c.mark_following.new.used
    c.in_ok-ask_power.ensures.shape.few c.in_ok-block.ensures.1 c.chain.ensures c.in-Some-size.ensures.answer.1 c.insert.ensures)
    c.mark_following.ensures
