-- The parts in turn.
use Rattle.std.proofs.Common.{arith}
use Rattle.writing.proofs.Parts.{first_parts}
use Rattle.writing.proofs.bytes.filling.first_bytes.Goals as goal

pub returns : goal.returns
returns c =
    let x = c.args in
    rw (
      c.extend-5.ensures.held,
      c.extend-4.ensures.held,
      c.extend-3.ensures.held,
      c.extend-2.ensures.held,
      c.extend.ensures.held,
      c.push.ensures.held,
      c.none-bytes.ensures.held,
      c.into.ensures,
      c.first_type_of.ensures,
      c.to_le_bytes.ensures,
      c.to_le_bytes-2.ensures,
      c.to_le_bytes-3.ensures,
      c.to_le_bytes-4.ensures,
    ) (first_parts x.size x.number.0 x.serial x.next.0 c.code.result _ x.data.now c.code.ensures (omega arith))
