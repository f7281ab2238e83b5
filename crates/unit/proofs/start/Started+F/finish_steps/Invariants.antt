-- What is left, from here, ends as what was left at the beginning does.
use Rattle.std.proofs.Common.{◌≡◌, ℕ, ◌-◌, Option}
use Rattle.decision.specs.declared.fault.UnitFault.{UnitFault}
use Rattle.decision.specs.Decisions.{Performs}
use Rattle.decision.specs.Calls.{to_step, Finishes}
use Rattle.unit.proofs.start.Started+F.finish_steps.Given as goal

abbrev pub invariant-loop : goal.invariant-loop
invariant-loop g l =
    let m = g.F.Flash.model in
    (l.counter ≡ l.self.accepted)
    × ((m.meaning l.self.flash).count ≡ l.end)
    × (l.self.plan ≡ l.initial.self.plan)
    × ((o : Option UnitFault) (i : ℕ) (y : _)
    → Finishes (λ j. Performs m (to_step j)) (l.end - l.self.accepted) l.self.accepted l.self.flash o i y
    → Finishes (λ j. Performs m (to_step j)) ((m.meaning l.initial.self.flash).count - l.initial.self.accepted) l.initial.self.accepted l.initial.self.flash o i y)
