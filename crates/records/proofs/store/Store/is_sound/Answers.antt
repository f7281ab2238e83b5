-- No block is a first block of a number that the plan has not, and a block that there is not is no first block.
use Rattle.std.proofs.Common.{arith}
use Rattle.records.proofs.Chains.{beyond_unsound, unplanned_unsound}
use Rattle.records.proofs.store.Store.is_sound.Goals as goal

pub returns-in_default : goal.returns-in_default
returns-in_default g c = (c.in_ok-ask_power.ensures.answer.0, unplanned_unsound _ _ _ _ _ c.in_default.ensures.answer)

pub returns-then-first-block_count : goal.returns-then-first-block_count
returns-then-first-block_count g c = (c.in_ok-ask_power.ensures.answer.0, beyond_unsound _ _ _ _ _ (omega arith))
