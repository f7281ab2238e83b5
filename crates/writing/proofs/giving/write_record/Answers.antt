-- One following block more, and at the end the first block.
use Rattle.std.proofs.Common.{◌≡◌, ℕ, ◌+◌, List, ◌∷◌, Err, get_or, sym, ap, ◌∙◌, subst, arith, rules}
use Rattle.std.proofs.lemmas.Result.{err_from_is_err_and}
use Rattle.flash.specs.declared.BlockNumber.{BlockNumber}
use Rattle.flash.specs.declared.fault.FlashFault.{FlashFault}
use Rattle.flash.specs.Lists.{Tried}
use Rattle.writing.specs.Listed.{blocks_of, numbers_of}
use Rattle.writing.specs.Writing.{first_commands_by_size, record_commands_by_size, record_on}
use Rattle.writing.proofs.Steps.{next_first, blocks_more, blocks_stop, blocks_end}
use Rattle.writing.proofs.giving.write_record.Goals as goal

pub loop-j-init : goal.loop-j-init
unfolding record_commands_by_size
loop-j-init g c r y h =
    let x = c.args.record.now in
    let first = c.in-Some.first.now in
    let following = c.in-Some.following.now in
    let e : blocks_of x.blocks ≡ first ∷ following = search rules in
    subst (λ (bs : List BlockNumber). Tried g.F.Flash.model (record_on x.size x.number.0 x.serial c.args.data.now (numbers_of bs)) c.args.flash.now r y) (sym e) h

pub returns-in_err-write_following : goal.returns-in_err-write_following
returns-in_err-write_following g c =
    let x = c.args.record.now in
    let first = c.in-Some.first.now in
    let following = c.in-Some.following.now in
    let f = c.in_err-write_following.field-0.0 in
    let p = err_from_is_err_and {Q = λ (e : FlashFault). e ≡ f} c.from_residual.result c.from_residual.ensures.1 in
    let next : c.unwrap_or-next.result.now ≡ get_or following (c.loop-j.j + 1) first = search rules in
    rw (p.1, p.2) (c.loop-j.invariant (Err f) c.write_following.new.flash
    (blocks_stop x.size first c.args.data.now following _ g.F.Flash.model c.loop-j.j c.loop-j.flash c.write_following.new.flash c.unwrap_or-next.result.now f (omega arith) next c.in_err-write_following.ensures))

pub loop-j-preserved : goal.loop-j-preserved
loop-j-preserved g c r y h =
    let x = c.args.record.now in
    let first = c.in-Some.first.now in
    let following = c.in-Some.following.now in
    let next : c.unwrap_or-next.result.now ≡ get_or following (c.loop-j.j + 1) first = search rules in
    c.loop-j.invariant r y (blocks_more x.size first c.args.data.now following _ g.F.Flash.model c.loop-j.j c.loop-j.flash y c.unwrap_or-next.result.now c.write_following.new.flash tt r (omega arith) next c.in_ok-write_following.ensures h)

pub returns : goal.returns
returns g c =
    let x = c.args.record.now in
    let first = c.in-Some.first.now in
    let following = c.in-Some.following.now in
    let next : c.unwrap_or-next-2.result.now ≡ get_or following 0 first = search rules in
    c.loop-j.invariant _ _ (blocks_end x.size first c.args.data.now following _ g.F.Flash.model c.loop-j.j c.loop-j.flash _ _ (omega arith)
    (subst (λ (b : ℕ). Tried g.F.Flash.model (first_commands_by_size x.size x.number.0 x.serial c.args.data.now first.0 b) c.loop-j.flash c.write_first.result c.write_first.new.flash) (ap (λ (b : BlockNumber). b.0) next ∙ next_first first following) c.write_first.ensures))
