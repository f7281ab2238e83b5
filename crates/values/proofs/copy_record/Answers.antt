-- The first block's data, and then that of the following blocks.
use Rattle.std.proofs.Common.{length-take, arith}
use Rattle.std.proofs.lemmas.Result.{MatchResult-weaker}
use Rattle.layout.specs.Sizes.{first_share}
use Rattle.layout.specs.Plans.{sizes_of}
use Rattle.layout.specs.Reads.{words_of}
use Rattle.records.proofs.Sixteen.{not_refused}
use Rattle.values.proofs.Copies.{front_filled, value_sized, sound_inside, sound_led}
use Rattle.values.proofs.copy_record.Goals as goal

pub returns-in_err-block : goal.returns-in_err-block
returns-in_err-block g c =
    absurd (not_refused g.F.Flash.model.kind (g.F.Flash.model.meaning c.args.store.now.flash.now) c.args.first.0 _ c.requires.power
    (sound_inside _ _ _ _ _ c.requires.sound) c.in_err-block.ensures)

pub slice_bounds-part-end : goal.slice_bounds-part-end
unfolding first_share
slice_bounds-part-end g c = omega arith

pub slice_bounds-part-end-2 : goal.slice_bounds-part-end-2
unfolding first_share
slice_bounds-part-end-2 g c = omega (arith, length-take c.first_share_of.result c.args.out.now)

pub copy_following-requires-clause-led : goal.copy_following-requires-clause-led
copy_following-requires-clause-led g c = (c.args.first.0, sound_led _ _ (sizes_of c.args.store.now.plan.now) c.args.number.0 _ _ _ _ c.requires.planned.0 c.requires.sound c.in_ok-block.ensures.1 c.chain.ensures)

pub returns : goal.returns
unfolding first_share
returns g c =
    let k = c.first_share_of.result in
    let o = c.args.out.now in
    MatchResult-weaker c.copy_following.result c.copy_following.ensures
    (λ x h. value_sized (g.F.Flash.model.meaning c.args.store.now.flash.now).word (sizes_of c.args.store.now.plan.now) c.args.number.0 c.args.first.0 c.args.size o _ _ _ k _
    c.requires.planned.0 c.requires.room c.in_ok-block.ensures.1 c.chain.ensures c.first_share_of.ensures.value (front_filled (words_of c.in_ok-block.block) 11 k o c.copy_bytes.new.out (omega arith) c.copy_bytes.ensures) h)
    (λ y h. absurd h)
