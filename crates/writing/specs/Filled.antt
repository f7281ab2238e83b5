-- The bytes of a block that is to be programmed, as a list.
--     held x             the bytes that x has
use Rattle.std.specs.Prelude.{ℕ, List, take}
use Rattle.writing.specs.declared.bytes.BlockBytes.{BlockBytes}

-- the front of the table
abbrev pub held : BlockBytes → List ℕ
held x = take x.len x.bytes
