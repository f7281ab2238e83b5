-- One byte is set behind the last.
use Rattle.std.proofs.Common.{refl, rules}
use Rattle.std.proofs.lemmas.List.{take_more_set}
use Rattle.writing.proofs.bytes.BlockBytes.push.Goals as goal

pub returns : goal.returns
returns c =
    let x = c.args.self.now in record { held = take_more_set x.bytes x.len c.args.byte (search rules); len = refl }
