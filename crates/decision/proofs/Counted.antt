-- No call changes the block count.
use Rattle.std.proofs.Common.{◌≡◌, ℕ, List, [], ◌∷◌, Ok, Err, Result, ap, inl, inr}
use Rattle.flash.specs.declared.fault.FlashFault.{FlashFault}
use Rattle.flash.specs.State.{State}
use Rattle.flash.specs.Commands.{Command, program, erase, done, Stopped}
use Rattle.flash.specs.Rules.{Model}
use Rattle.flash.specs.Lists.{Interrupted}
use Rattle.decision.specs.declared.fault.UnitFault.{UnitFault}
use Rattle.decision.specs.Decisions.{Decision, refuse, perform, Operation, Outcome, Performs}
use Rattle.decision.proofs.Means.{performs_means}

stopped_count : (c : Command) (s t : State) → Stopped c s t → t.count ≡ s.count
stopped_count (program b w v) s t h = ap (λ (z : State). z.count) h.2
stopped_count (erase b) s t h = ap (λ (z : State). z.count) h.1

interrupted_count : (k : ℕ) (cs : List Command) (s t : State) (f : FlashFault) → Interrupted k cs s f t → t.count ≡ s.count
interrupted_count k [] s t f h = absurd h
interrupted_count k (c ∷ cs) s t f (inl h) = stopped_count c s t h.1
interrupted_count k (c ∷ cs) s t f (inr h) = interrupted_count k cs (done c s) t f h

pub outcome_count : {A : Type 0} (k : ℕ) (d : Decision A) (s t : State) (r : Result A UnitFault) → Outcome k d s r t → t.count ≡ s.count
outcome_count k (refuse e) s t r h = ap (λ (z : State). z.count) h.1
outcome_count k (perform cs a) s t (Ok z) h = ap (λ (z : State). z.count) h.1
outcome_count k (perform cs a) s t (Err e) h = interrupted_count k cs s t h.0 h.2

pub performs_count : {F A : Type 0} (model : Model F) (call : Operation A) (x y : F) (r : Result A UnitFault)
    → Performs model call x r y → (model.meaning y).count ≡ (model.meaning x).count
performs_count model call x y r h = outcome_count model.kind (call model.kind (model.meaning x)) (model.meaning x) (model.meaning y) r (performs_means model call x y r h)
