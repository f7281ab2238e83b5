-- The fold over the bytes.
use Rattle.std.proofs.Common.{◌∙◌, rules}
use borrow.Author.Tests.{tests}
use Rattle.std.proofs.lemmas.Iterator.{YieldsList-from_slice}
use Rattle.std.proofs.lemmas.Iterator.Consumers.{fold_from_yields_List}
use Rattle.layout.specs.Code.{crc_byte}
use Rattle.layout.proofs.Loops.{crc_fold}
use Rattle.layout.proofs.code.crc_bytes.Goals as goal

pub returns : goal.returns
returns c = fold_from_yields_List _ crc_byte _ _ c.fold.ensures.ran (YieldsList-from_slice c.args.bytes.now (cc)) (λ a x b q k. search (rules, tests)) ∙ crc_fold c.args.start c.args.bytes.now
