-- The newest of the table is the newest record.
use Rattle.std.proofs.Common.{◌∙◌}
use Rattle.layout.specs.Plans.{sizes_of}
use Rattle.survey.proofs.Newer.{newest_table}
use Rattle.survey.proofs.found.find_newest.Goals as goal

pub returns : goal.returns
returns g c =
    let s = g.F.Flash.model.meaning c.args.store.now.flash.now in
    let table = c.in_ok-heads.ensures.answer in
    (table.0, c.newest.ensures ∙ newest_table s.count s.word (sizes_of c.args.store.now.plan.now) c.in_ok-heads.heads table.1)
