-- Each test decides the whole, and the walk the rest.
use Rattle.std.proofs.Common.{Bool, subst}
use Rattle.records.specs.Answered.{Answers}
use Rattle.records.proofs.Chains.{unplanned_unsound, unchecked_unsound, checked_sound}
use Rattle.records.proofs.store.Store.is_sound_first.Goals as goal

pub returns-in_default-clause-answer : goal.returns-in_default-clause-answer
returns-in_default-clause-answer g c = (c.in_ok-ask_power.ensures.answer.0, unplanned_unsound _ _ _ _ _ c.in_default.ensures.answer)

pub returns-then-not-is_first_block-clause-answer : goal.returns-then-not-is_first_block-clause-answer
returns-then-not-is_first_block-clause-answer g c =
    (c.in_ok-ask_power.ensures.answer.0, unchecked_unsound _ _ _ _ _ _ c.requires.read c.if-not-is_first_block.ensures)

pub returns-clause-answer : goal.returns-clause-answer
returns-clause-answer g c =
    let s = g.F.Flash.model.meaning c.args.self.now.flash.now in
    subst (λ (v : Bool). Answers g.F.Flash.model.kind s v c.leads.result)
    (checked_sound s.count s.word _ c.args.number.0 _ _ _ _ c.requires.inside c.requires.read c.if-not-is_first_block.ensures c.in-Some.ensures.answer.1 c.chain.ensures) c.leads.ensures
