-- What comes of a decision over the values of a flash comes of it over the meanings.
use Rattle.std.proofs.Common.{ℕ, zero, suc, Ok, Err, Option, Result, ap, inl, inr}
use Rattle.flash.specs.Rules.{Model}
use Rattle.flash.proofs.Lists.{through_means, cut_means}
use Rattle.decision.specs.declared.fault.UnitFault.{UnitFault}
use Rattle.decision.specs.Decisions.{Decision, refuse, perform, Operation, Performed, Outcome, Performs, Does}
use Rattle.decision.specs.Calls.{to_step, Finishes}

module _ {F A : Type 0} (model : Model F) where
  pub performed_means : (d : Decision A) (x y : F) (r : Result A UnitFault) → Performed model d x r y → Outcome model.kind d (model.meaning x) r (model.meaning y)
  performed_means (refuse e) x y r h = (h.0, ap model.meaning h.1)
  performed_means (perform cs a) x y (Ok z) h = (h.0, through_means model cs x y h.1)
  performed_means (perform cs a) x y (Err e) h = (h.0, h.1, cut_means model cs x y h.0 h.2)

  pub performs_means : (call : Operation A) (x y : F) (r : Result A UnitFault) → Performs model call x r y → Does model.kind call (model.meaning x) r (model.meaning y)
  performs_means call x y r h = performed_means (call model.kind (model.meaning x)) x y r h

-- and so do the steps that an ending makes
pub finishes_means : {F : Type 0} (model : Model F) (l j : ℕ) (x : F) (o : Option UnitFault) (i : ℕ) (y : F)
    → Finishes (λ k. Performs model (to_step k)) l j x o i y → Finishes (λ k. Does model.kind (to_step k)) l j (model.meaning x) o i (model.meaning y)
finishes_means model zero j x o i y h = (h.0, h.1, ap model.meaning h.2)
finishes_means model (suc l) j x o i y (inl h) =
    inl (model.meaning h.0, performs_means model (to_step j) x h.0 (Ok tt) h.1, finishes_means model l (suc j) h.0 o i y h.2)
finishes_means model (suc l) j x o i y (inr h) = inr (h.0, h.1, h.2, performs_means model (to_step j) x y (Err h.0) h.3)
