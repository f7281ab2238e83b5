-- The refusals in their order, and the record that is written.
use Rattle.std.proofs.Common.{◌≡◌, ◌+◌, ◌<◌, ◌≤◌, length, ◌∙◌, arith}
use Rattle.std.specs.List.{AllByRecursion}
use Rattle.std.proofs.ByRecursion.{All-from_get_or}
use Rattle.std.proofs.lemmas.Result.{err_from_is_err_and}
use mir.Facts.{Fits-lt-pow}
use Rattle.layout.specs.Sizes.{Planned, size}
use Rattle.layout.specs.Plans.{sizes_of}
use Rattle.survey.specs.Entries.{counts_of}
use Rattle.survey.proofs.Tallied.{tally_counted}
use Rattle.writing.specs.Listed.{listed}
use Rattle.decision.proofs.Writing.{blocks_wanted, write_spent, write_roomless, write_decided}
use Rattle.decision.proofs.write.decide_write.Goals as goal

pub returns-in_default-next_serial : goal.returns-in_default-next_serial
returns-in_default-next_serial g c =
    let m = g.F.Flash.model in
    let seen = c.in_ok-seen.ensures in
    let known = c.in-Some.ensures.answer in
    rw c.into-in_default-next_serial.ensures (record {
      decided = write_spent (sizes_of c.args.store.now.plan.now) c.args.number.0 c.args.data.now c.args.bar.now m.kind (m.meaning c.args.store.now.flash.now)
          known.0 (c.if-data-size.false ∙ known.1) c.if-bar.false seen.0 c.in_ok-seen.seen seen.1 c.newest-latest.result c.newest-latest.ensures c.in_default-next_serial.ensures;
      leads = tt;
    })

pub returns-in_err-check_room : goal.returns-in_err-check_room
returns-in_err-check_room g c =
    let m = g.F.Flash.model in
    let s = m.meaning c.args.store.now.flash.now in
    let p = sizes_of c.args.store.now.plan.now in
    let seen = c.in_ok-seen.ensures in
    let known = c.in-Some.ensures.answer in
    let e = err_from_is_err_and c.from_residual-in_err-check_room.result c.from_residual-in_err-check_room.ensures.1 in
    rw (e.1, e.2) (record {
      decided = write_roomless p c.args.number.0 c.args.data.now c.args.bar.now m.kind s
          known.0 (c.if-data-size.false ∙ known.1) c.if-bar.false seen.0 c.in_ok-seen.seen seen.1 c.newest-latest.result c.newest-latest.ensures
          c.in-Some-next_serial.serial c.in-Some-next_serial.ensures c.counts.result (c.counts.ensures ∙ tally_counted s.count s.word p c.in_ok-seen.seen.survey seen.2 c.block_count.ensures.shape.few)
          (1 + c.follower_count-need.result) (blocks_wanted p c.args.number.0 c.in-Some.size c.follower_count-need.result known.1 c.follower_count-need.ensures.count) _ c.in_err-check_room.ensures;
      leads = tt;
    })

pub returns : goal.returns
returns g c =
    let m = g.F.Flash.model in
    let s = m.meaning c.args.store.now.flash.now in
    let p = sizes_of c.args.store.now.plan.now in
    let n = c.args.number.0 in
    let d = c.args.data.now in
    let z = c.in-Some.size in
    let seen = c.in_ok-seen.ensures in
    let known = c.in-Some.ensures.answer in
    let sized : length d ≡ size p n = c.if-data-size.false ∙ known.1 in
    let tallied : c.counts.result ≡ counts_of s.count s.word p = c.counts.ensures ∙ tally_counted s.count s.word p c.in_ok-seen.seen.survey seen.2 c.block_count.ensures.shape.few in
    let wanted = blocks_wanted p n z c.follower_count-need.result known.1 c.follower_count-need.ensures.count in
    let planned : Planned p = c.in-Some.ensures.planned in
    let bytes : AllByRecursion (λ x. x < 256) d = All-from_get_or (λ x. x < 256) d 0 (λ i h. Fits-lt-pow (c.type_inv.data i)) in
    let few : 1 + c.follower_count-need.result ≤ 20 = omega (arith, c.follower_count-need.ensures.few known.3) in
    let w =
    write_decided p n d c.args.bar.now m.kind s known.0 sized c.if-bar.false seen.0 c.in_ok-seen.seen seen.1 c.newest-latest.result c.newest-latest.ensures
    c.in-Some-next_serial.serial c.in-Some-next_serial.ensures c.counts.result tallied (1 + c.follower_count-need.result) wanted
    c.in_ok-check_room.field-0 c.in_ok-check_room.ensures c.block_count.ensures.shape planned bytes seen.2
    c.after-round.result c.block_count.result c.after-round.ensures c.block_count.ensures.answer few (listed c.take_free.result) c.take_free.ensures z known.1 in
    record { decided = w.0; leads = w.1 }
