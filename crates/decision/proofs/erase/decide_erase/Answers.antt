-- The block that was found is the one that the definition has.
use Rattle.layout.specs.Plans.{sizes_of}
use Rattle.decision.proofs.Erasing.{erase_none, erase_some}
use Rattle.decision.proofs.erase.decide_erase.Goals as goal

pub returns-in_default : goal.returns-in_default
returns-in_default g c =
    let m = g.F.Flash.model in
    let seen = c.in_ok-seen.ensures in
    rw c.into-in_default.ensures (erase_none (sizes_of c.args.store.now.plan.now) c.args.bar.now m.kind (m.meaning c.args.store.now.flash.now) c.if-bar.false seen.0
    c.in_ok-seen.seen seen.2 seen.1 c.newest.result c.newest.ensures c.after-round.result c.block_count.result c.after-round.ensures c.block_count.ensures.answer
    c.in_default.ensures)

pub returns : goal.returns
returns g c =
    let m = g.F.Flash.model in
    let seen = c.in_ok-seen.ensures in
    erase_some (sizes_of c.args.store.now.plan.now) c.args.bar.now m.kind (m.meaning c.args.store.now.flash.now) c.if-bar.false seen.0
    c.in_ok-seen.seen seen.2 seen.1 c.newest.result c.newest.ensures c.after-round.result c.block_count.result c.after-round.ensures c.block_count.ensures.answer
    c.in-Some.block c.in-Some.ensures
