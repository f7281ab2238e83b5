-- The block is a sound first block of its own number, or of none.
use Rattle.std.proofs.Common.{sym, ◌∙◌}
use Rattle.layout.specs.Plans.{sizes_of}
use Rattle.records.proofs.Owners.{owner_none, owner_some}
use Rattle.records.proofs.store.Store.owner_of.Goals as goal

pub returns-then-not-branch-clause-answer : goal.returns-then-not-branch-clause-answer
returns-then-not-branch-clause-answer g c =
    let s = g.F.Flash.model.meaning c.args.self.now.flash.now in
    let found = c.in_ok-is_sound_first.ensures.answer in
    (found.0, owner_none s.count s.word (sizes_of c.args.self.now.plan.now) c.args.block.0 _ c.number-number.result.0 c.requires.read c.number-number.ensures (sym c.if-not-branch.true ∙ found.1))

pub returns-clause-answer : goal.returns-clause-answer
returns-clause-answer g c =
    let s = g.F.Flash.model.meaning c.args.self.now.flash.now in
    let found = c.in_ok-is_sound_first.ensures.answer in (
      found.0,
      owner_some s.count s.word (sizes_of c.args.self.now.plan.now) c.args.block.0 _ c.number-number.result.0 c.requires.read c.number-number.ensures c.serial.result (sym c.if-not-branch.false ∙ found.1) c.serial.ensures,
    )
