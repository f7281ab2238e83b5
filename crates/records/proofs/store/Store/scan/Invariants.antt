-- The tables of the blocks below b.
use Rattle.layout.specs.Plans.{sizes_of}
use Rattle.records.specs.Tables.{standing}
use Rattle.records.proofs.Owners.{Table}
use Rattle.records.proofs.Stood.{Stood}
use Rattle.records.proofs.store.Store.scan.Given as goal

abbrev pub invariant-loop-b : goal.invariant-loop-b
invariant-loop-b g l =
    Table (g.F.Flash.model.meaning l.self.flash.now).count (g.F.Flash.model.meaning l.self.flash.now).word (sizes_of l.self.plan.now) l.b l.found.heads
    × Stood (λ k. standing ((g.F.Flash.model.meaning l.self.flash.now).word k)) l.b l.found.standings.entries
