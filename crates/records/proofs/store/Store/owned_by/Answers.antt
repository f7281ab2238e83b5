-- A block that there is not is no first block.
use Rattle.std.proofs.Common.{arith}
use Rattle.layout.specs.Plans.{sizes_of}
use Rattle.records.proofs.Owners.{owner_beyond}
use Rattle.records.proofs.store.Store.owned_by.Goals as goal

pub returns-then-block-block_count : goal.returns-then-block-block_count
returns-then-block-block_count g c =
    let s = g.F.Flash.model.meaning c.args.self.now.flash.now in
    (c.in_ok-ask_power.ensures.answer.0, owner_beyond s.count s.word (sizes_of c.args.self.now.plan.now) c.args.block.0 (omega arith))
