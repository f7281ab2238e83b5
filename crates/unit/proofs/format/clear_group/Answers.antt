-- One block on, and a block in whose clearing power went.
use Rattle.std.proofs.Common.{ℕ, ◌-◌, cond, [], ◌∷◌, Err, filter, ◌∙◌, subst}
use Rattle.std.proofs.lemmas.Result.{err_from_is_err_and}
use Rattle.std.specs.List.{range_with_len}
use Rattle.flash.specs.Lists.{Cut}
use Rattle.decision.specs.Calls.{clearings}
use Rattle.unit.specs.Grouped.{has_group, of_group}
use Rattle.unit.proofs.Formatting.{stays_on, same_count, block_more, block_cut}
use Rattle.unit.proofs.format.clear_group.Goals as goal

pub returns-in_err-clear_in_group : goal.returns-in_err-clear_in_group
returns-in_err-clear_in_group g c =
    let m = g.F.Flash.model in
    let q = has_group c.args.groups.now c.args.group in
    let b = c.loop-b.b in
    let n = c.block_count-b-end.result in
    let x = c.args.flash.now in
    let y = c.clear_in_group.new.flash in
    let f = c.in_err-clear_in_group.field-0.0 in
    let cut : Cut m (clearings (m.meaning c.loop-b.flash).word (filter q (range_with_len b (n - b)))) c.loop-b.flash f y =
    block_cut m q b n c.loop-b-test.true c.loop-b.flash y f c.in_err-clear_in_group.ensures in
    let e = err_from_is_err_and c.from_residual.result c.from_residual.ensures.1 in
    rw (e.1, e.2) (subst (λ (i : ℕ). Cut m (clearings (m.meaning x).word (of_group c.args.groups.now c.args.group i)) x f y) c.block_count-b-end.ensures.answer (c.loop-b.invariant.2 (Err f) y cut))

pub loop-b-preserved : goal.loop-b-preserved
loop-b-preserved g c =
    let m = g.F.Flash.model in
    let q = has_group c.args.groups.now c.args.group in
    let b = c.loop-b.b in
    let n = c.block_count-b-end.result in
    let z = c.clear_in_group.new.flash in
    let done = c.in_ok-clear_in_group.ensures in (
      stays_on m (cond (q b) (b ∷ []) []) c.loop-b.flash z done ∙ c.loop-b.invariant.0,
      same_count m (cond (q b) (b ∷ []) []) c.loop-b.flash z done ∙ c.loop-b.invariant.1,
      λ r y h. c.loop-b.invariant.2 r y (block_more m q b n c.loop-b-test.true c.loop-b.flash z y r done h),
    )
