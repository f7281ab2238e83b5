-- The parts in turn.
use Rattle.std.proofs.Common.{◌+◌, ◌-◌, ◌*◌, arith}
use Rattle.layout.specs.Sizes.{share}
use Rattle.writing.proofs.Parts.{part_most, follow_parts}
use Rattle.writing.proofs.bytes.filling.follow_bytes.Goals as goal

pub returns : goal.returns
returns c =
    let x = c.args in
    let most = part_most (c.min-to.result - c.min-from.result) c.min-from.result (share x.size x.j) (41 + 53 * x.j) x.data.now (omega arith) (omega arith) in
    rw (c.extend-2.ensures.held, c.extend.ensures.held, c.push.ensures.held, c.none-bytes.ensures.held, c.into.ensures, c.to_le_bytes.ensures, most) (follow_parts x.size x.j x.next.0 x.data.now)
