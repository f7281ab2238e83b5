-- The record's commands were done, or power went in one of them.
use Rattle.std.proofs.Common.{Ok, Err, sym, refl, subst}
use Rattle.std.proofs.lemmas.Result.{err_from_is_err_and}
use Rattle.flash.specs.State.{State}
use Rattle.flash.specs.Lists.{Through, Cut}
use Rattle.flash.proofs.Lists.{through_means}
use Rattle.layout.specs.Plans.{sizes_of}
use Rattle.writing.specs.Listed.{listed}
use Rattle.writing.specs.Writing.{record_on}
use Rattle.decision.specs.declared.fault.UnitFault.TheVariants.{Flash}
use Rattle.decision.specs.Decisions.{Performs}
use Rattle.decision.specs.Calls.{to_write}
use Rattle.decision.specs.Writes.{LeadsToRecord}
use Rattle.decision.proofs.Means.{performs_means}
use Rattle.decision.proofs.Performing.{performed_done, performed_cut, taken_given}
use Rattle.unit.proofs.write.Ready+F.write.Goals as goal

pub returns-in_err-write_record : goal.returns-in_err-write_record
returns-in_err-write_record g c =
    let m = g.F.Flash.model in
    let x = c.args.self.now.flash in
    let y = c.write_record.new.flash in
    let d = c.args.data.now in
    let w = c.in_ok-record.record in
    let f = c.in_err-write_record.field-0.0 in
    let cs = record_on w.size w.number.0 w.serial d (listed w.blocks) in
    let call = to_write (sizes_of c.args.self.now.plan) c.args.number.0 d c.args.bar.now in
    let decided = c.in_ok-record.ensures.decided in
    let cut : Cut m cs x f y = taken_given m cs x y (Err f) decided.1 decided.2 c.in_err-write_record.ensures in
    let told : Performs m call x (Err (Flash f)) y = performed_cut m (call m.kind (m.meaning x)) cs w.serial decided.0 x y f cut in
    let e = err_from_is_err_and c.from_residual-in_err-write_record.result c.from_residual-in_err-write_record.ensures.1 in
    rw (e.1, e.2) (record { told = told; does = performs_means m call x y (Err (Flash f)) told; wrote = tt; plan = refl; accepted = refl })

pub returns : goal.returns
returns g c =
    let m = g.F.Flash.model in
    let x = c.args.self.now.flash in
    let y = c.write_record.new.flash in
    let d = c.args.data.now in
    let w = c.in_ok-record.record in
    let cs = record_on w.size w.number.0 w.serial d (listed w.blocks) in
    let call = to_write (sizes_of c.args.self.now.plan) c.args.number.0 d c.args.bar.now in
    let decided = c.in_ok-record.ensures.decided in
    let given : Through m cs x y = taken_given m cs x y (Ok tt) decided.1 decided.2 c.in_ok-write_record.ensures in
    let told : Performs m call x (Ok w.serial) y = performed_done m (call m.kind (m.meaning x)) cs w.serial decided.0 x y given in
    record {
      told = told;
      does = performs_means m call x y (Ok w.serial) told;
      wrote =
          subst (λ (s : State). LeadsToRecord (m.meaning x).count (m.meaning x).word (sizes_of c.args.self.now.plan) c.args.number.0 d w.serial s.word)
          (sym (through_means m cs x y given)) c.in_ok-record.ensures.leads;
      plan = refl;
      accepted = refl;
    }
