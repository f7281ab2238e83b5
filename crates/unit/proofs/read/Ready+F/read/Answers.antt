-- The number has no value, or its value was copied.
use Rattle.std.proofs.Common.{sym, ◌∙◌, arith}
use Rattle.layout.specs.Plans.{sizes_of}
use Rattle.unit.proofs.Reading.{reads_none, reads_whole, not_refused}
use Rattle.unit.proofs.read.Ready+F.read.Goals as goal

pub returns-in_default-2 : goal.returns-in_default-2
returns-in_default-2 g c =
    let m = g.F.Flash.model in
    let known = c.in-Some.ensures.answer in
    let found = c.in_ok-head.ensures in
    rw c.into-in_default-2.ensures (reads_none (sizes_of c.args.self.now.plan) c.args.number.0 c.args.out.now c.args.bar.now m.kind (m.meaning c.args.self.now.flash)
    known.0 (omega (arith, known.1, c.if-out-size.false)) c.if-bar.false found.0 (sym c.in_default-2.is ∙ found.1))

pub returns-in_err-copy_record_at : goal.returns-in_err-copy_record_at
returns-in_err-copy_record_at g c =
    let m = g.F.Flash.model in
    let known = c.in-Some.ensures.answer in
    let found = c.in_ok-head.ensures in
    absurd (not_refused (sizes_of c.args.self.now.plan) c.args.number.0 c.args.out.now c.args.bar.now m.kind (m.meaning c.args.self.now.flash)
    known.0 (omega (arith, known.1, c.if-out-size.false)) c.if-bar.false found.0 c.in-Some-2.head (sym c.in-Some-2.is ∙ found.1)
    c.in_err-copy_record_at.field-0.0 c.copy_record_at.new.out c.in_err-copy_record_at.ensures)

pub returns : goal.returns
returns g c =
    let m = g.F.Flash.model in
    let known = c.in-Some.ensures.answer in
    let found = c.in_ok-head.ensures in
    reads_whole (sizes_of c.args.self.now.plan) c.args.number.0 c.args.out.now c.args.bar.now m.kind (m.meaning c.args.self.now.flash)
    known.0 (omega (arith, known.1, c.if-out-size.false)) c.if-bar.false found.0 c.in-Some-2.head (sym c.in-Some-2.is ∙ found.1)
    c.in-Some.size c.copy_record_at.new.out known.1 c.in_ok-copy_record_at.ensures.1
