-- The fold over the eight bits.
use Rattle.std.proofs.Common.{refl, rules}
use borrow.Author.Tests.{tests}
use Rattle.std.proofs.lemmas.Iterator.{YieldsList-from_range}
use Rattle.std.proofs.lemmas.Iterator.Consumers.{fold_from_yields_List}
use Rattle.layout.specs.Code.{crc_bit, crc_bits, crc_byte}
use Rattle.layout.proofs.code.crc_byte.Goals as goal

pub returns : goal.returns
unfolding crc_byte crc_bits
returns c = fold_from_yields_List _ (λ q x. crc_bit q) _ _ c.fold.ensures.ran (YieldsList-from_range 0 8 8 refl refl) (λ a x b q k. search (rules, tests))
