-- The bytes of the number are those that are set.
use Rattle.std.proofs.Common.{◌+◌, ◌-◌, refl, ◌∙◌, arith}
use Rattle.std.proofs.lemmas.Slice.{put_mid-paste}
use Rattle.formats.proofs.Pasted.{four_pasted}
use Rattle.formats.proofs.bytes.set_four.Goals as goal

pub returns : goal.returns
returns c =
    put_mid-paste c.args.at (c.args.at + 4 - c.args.at) c.args.memory.now c.copy_from_slice.new.self _ 4 (c.copy_from_slice.ensures.after ∙ c.to_le_bytes.ensures) (omega arith) refl
    ∙ four_pasted c.args.memory.now c.args.at c.args.value c.requires
