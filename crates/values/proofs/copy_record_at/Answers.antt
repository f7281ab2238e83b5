-- A sound record is one of a number of the plan.
use Rattle.std.proofs.Common.{sym, ◌∙◌, arith}
use Rattle.layout.specs.Plans.{sizes_of}
use Rattle.values.proofs.Found.{sound_planned}
use Rattle.values.proofs.copy_record_at.Goals as goal

pub returns-in_default : goal.returns-in_default
returns-in_default g c =
    let s = g.F.Flash.model.meaning c.args.store.now.flash.now in
    absurd (omega (
      arith,
      c.in_default.ensures.answer,
      sound_planned s.count s.word (sizes_of c.args.store.now.plan.now) c.args.number.0 c.args.first.0 (sym c.in_ok-is_sound.ensures.1 ∙ c.if-not-branch.false),
    ))
