-- The value is the data of the current record.
use Rattle.std.proofs.Common.{ℕ, List, Err, Option, sym, refl, ◌∙◌, subst}
use Rattle.layout.specs.Sizes.{size}
use Rattle.layout.specs.Plans.{sizes_of}
use Rattle.values.specs.declared.CopyFault.TheVariants.{NoValue}
use Rattle.values.specs.Copying.{Copying, CopiesData}
use Rattle.values.proofs.Found.{none_valued, head_valued}
use Rattle.values.proofs.copy_value.Goals as goal

pub returns-in_default : goal.returns-in_default
returns-in_default g c =
    let s = g.F.Flash.model.meaning c.args.store.now.flash.now in
    let p = sizes_of c.args.store.now.plan.now in
    let n = c.args.number.0 in
    let found = c.in_ok-head.ensures in
    let d = c.args.out.now in (
      found.0,
      subst (λ (v : Option (List ℕ)). Copying v (size p n) d (Err NoValue) d) (sym (none_valued s.count s.word p n (sym c.in_default.is ∙ found.1))) (refl, refl),
    )

pub returns : goal.returns
returns g c =
    let m = g.F.Flash.model in
    let s = m.meaning c.args.store.now.flash.now in
    let p = sizes_of c.args.store.now.plan.now in
    let n = c.args.number.0 in
    subst (λ (v : Option (List ℕ)). CopiesData m.kind s v (size p n) c.args.out.now c.copy_record_at.result c.copy_record_at.new.out)
    (sym (head_valued s.count s.word p n c.in-Some.head (sym c.in-Some.is ∙ c.in_ok-head.ensures.1))) c.copy_record_at.ensures
