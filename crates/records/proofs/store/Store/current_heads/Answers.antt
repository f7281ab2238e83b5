-- What a current record is.
use Rattle.layout.specs.Plans.{sizes_of}
use Rattle.layout.proofs.Currents.{current_is}
use Rattle.records.proofs.store.Store.current_heads.Goals as goal

pub returns-clause-law : goal.returns-clause-law
returns-clause-law g c = let s = g.F.Flash.model.meaning c.args.self.now.flash.now in current_is s.count s.word (sizes_of c.args.self.now.plan.now)
