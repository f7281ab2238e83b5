-- One block on.
use Rattle.std.proofs.Common.{◌+◌, ◌*◌, arith}
use Rattle.layout.specs.Sizes.{share}
use Rattle.layout.specs.Reads.{words_of}
use Rattle.values.proofs.Copies.{part_filled, filled_none, filled_more, filled_all, room_left}
use Rattle.values.proofs.copy_following.Goals as goal

pub loop-j-init : goal.loop-j-init
loop-j-init g c = (c.requires.led.0, filled_none _ _ _ _ _ _ c.requires.led.1)

pub slice_bounds-part-end : goal.slice_bounds-part-end
unfolding share
slice_bounds-part-end g c = omega (arith, room_left _ _ _ _ _ _ _ _ _ c.loop-j.invariant.1 (omega arith), c.loop-j.invariant.1.same)

pub loop-j-preserved : goal.loop-j-preserved
unfolding share
loop-j-preserved g c =
    let start = 41 + 53 * c.loop-j.j in
    let room = room_left _ _ _ _ _ _ _ _ _ c.loop-j.invariant.1 (omega arith) in (
      c.loop-j.invariant.0,
      filled_more _ _ _ _ _ _ _ _ _ c.loop-j.invariant.1 (omega arith) _ _ _ _ (omega arith) c.in_ok-block.ensures.1 c.chain-at.ensures c.share.ensures.value
          (part_filled (words_of c.in_ok-block.block) 3 start (start + c.share.result) c.share.result c.loop-j.out c.copy_bytes.new.out (omega arith) (omega (arith, room, c.loop-j.invariant.1.same)) c.copy_bytes.ensures),
    )

pub returns : goal.returns
returns g c = filled_all _ _ _ _ _ _ _ _ _ c.loop-j.invariant.1 (omega arith)
