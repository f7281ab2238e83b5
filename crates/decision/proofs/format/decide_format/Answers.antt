-- The groups are those of the blocks.
use Rattle.std.proofs.Common.{rules}
use Rattle.layout.specs.Plans.{sizes_of}
use Rattle.choice.proofs.Groupings.{groups_tabled}
use Rattle.decision.proofs.format.decide_format.Goals as goal

pub returns : goal.returns
returns g c =
    let s = g.F.Flash.model.meaning c.args.store.now.flash.now in
    let p = sizes_of c.args.store.now.plan.now in
    let seen = c.in_ok-seen.ensures in
    (search rules, seen.0, groups_tabled s.count s.word p c.in_ok-seen.seen c.group_blocks.result c.group_blocks.ensures seen.1 seen.2)
