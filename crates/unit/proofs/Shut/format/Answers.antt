-- The blocks were cleared in their order, or power went on the way.
use Rattle.std.proofs.Common.{ℕ, List, Ok, Err, refl, subst}
use Rattle.std.proofs.lemmas.Result.{err_from_is_err_and}
use Rattle.flash.specs.Lists.{Through, Cut}
use Rattle.layout.specs.Plans.{sizes_of}
use Rattle.choice.specs.Choosing.{format_order}
use Rattle.decision.specs.declared.fault.UnitFault.TheVariants.{Flash}
use Rattle.decision.specs.Decisions.{Performs}
use Rattle.decision.specs.Calls.{clearings, to_format}
use Rattle.decision.proofs.Means.{performs_means}
use Rattle.decision.proofs.Performing.{performed_done, performed_cut}
use Rattle.unit.proofs.Formatting.{order_is}
use Rattle.unit.proofs.Shut.format.Goals as goal

pub returns-in_err-clear_groups : goal.returns-in_err-clear_groups
returns-in_err-clear_groups g c =
    let m = g.F.Flash.model in
    let x = c.args.self.now.flash in
    let y = c.clear_groups.new.flash in
    let s = m.meaning x in
    let p = sizes_of c.args.self.now.plan in
    let call = to_format p c.args.code c.args.bar.now in
    let decided = c.in_ok-groups.ensures in
    let f = c.in_err-clear_groups.field-0.0 in
    let cs = clearings s.word (format_order s.count s.word p) in
    let cut : Cut m cs x f y =
    subst (λ (bs : List ℕ). Cut m (clearings s.word bs) x f y) (order_is s.count s.word p c.in_ok-groups.groups decided.2) c.in_err-clear_groups.ensures in
    let told : Performs m call x (Err (Flash f)) y = performed_cut m (call m.kind s) cs tt decided.0 x y f cut in
    let e = err_from_is_err_and c.from_residual-in_err-clear_groups.result c.from_residual-in_err-clear_groups.ensures.1 in
    rw (e.1, e.2) (record { told = told; does = performs_means m call x y (Err (Flash f)) told; plan = refl })

pub returns : goal.returns
returns g c =
    let m = g.F.Flash.model in
    let x = c.args.self.now.flash in
    let y = c.clear_groups.new.flash in
    let s = m.meaning x in
    let p = sizes_of c.args.self.now.plan in
    let call = to_format p c.args.code c.args.bar.now in
    let decided = c.in_ok-groups.ensures in
    let cs = clearings s.word (format_order s.count s.word p) in
    let given : Through m cs x y =
    subst (λ (bs : List ℕ). Through m (clearings s.word bs) x y) (order_is s.count s.word p c.in_ok-groups.groups decided.2) c.in_ok-clear_groups.ensures in
    let told : Performs m call x (Ok tt) y = performed_done m (call m.kind s) cs tt decided.0 x y given in
    record { told = told; does = performs_means m call x y (Ok tt) told; plan = refl }
