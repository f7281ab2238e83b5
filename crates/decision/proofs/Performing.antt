-- What was decided comes about: commands that the flash does not refuse are done or cut off by a loss, and nothing else.
use Rattle.std.proofs.Common.{◌≡◌, ℕ, ◌<◌, true, ltb, List, Ok, Err, Result, sym, refl, ◌∙◌, subst, inl, inr, arith}
use Rattle.std.proofs.lemmas.Bool.{lt-ltb}
use Rattle.flash.specs.declared.fault.FlashFault.{FlashFault}
use Rattle.flash.specs.State.{State}
use Rattle.flash.specs.Commands.{Command, reached}
use Rattle.flash.specs.Rules.{Model}
use Rattle.flash.specs.Lists.{Through, Cut, Given, Told, Tried, Taken}
use Rattle.flash.proofs.Lists.{tried_given}
use Rattle.decision.specs.declared.fault.UnitFault.{UnitFault}
use Rattle.decision.specs.declared.fault.UnitFault.TheVariants.{Flash}
use Rattle.decision.specs.Decisions.{Decision, refuse, perform, Performed}

-- a place of the flash is reached, with power on
pub reached_ok : (k : ℕ) (s : State) (b w : ℕ) → s.power ≡ true → b < s.count → w < 16 → reached k s b w ≡ Ok tt
reached_ok k s b w p h l =
    let e₁ : ltb b s.count ≡ true = lt-ltb b s.count h in
    let e₂ : ltb w 16 ≡ true = lt-ltb w 16 l in
    rw (p, e₁, e₂)

module _ {F : Type 0} (model : Model F) where
  -- a list that is not refused at once is given
  pub told_given : (v : Result (Unit {0}) FlashFault) (cs : List Command) (x y : F) (r : Result (Unit {0}) FlashFault)
      → v ≡ Ok tt → Told model v cs x r y → Given model cs x r y
  told_given v cs x y (Ok _) e h = h.1
  told_given v cs x y (Err f) e (inl h) = absurd (let q : Ok tt ≡ Err f = sym e ∙ h.0 in let z : ◌≡◌ {A = ℕ} 0 1 = cc in omega arith)
  told_given v cs x y (Err f) e (inr h) = h.1

  module _ {A : Type 0} (d : Decision A) (cs : List Command) (a : A) (e : d ≡ perform cs a) (x y : F) where
    -- every command was done
    pub performed_done : Through model cs x y → Performed model d x (Ok a) y
    performed_done h = subst (λ (q : Decision A). Performed model q x (Ok a) y) (sym e) (refl, h)

    -- power went in one of them
    pub performed_cut : (f : FlashFault) → Cut model cs x f y → Performed model d x (Err (Flash f)) y
    performed_cut f h = subst (λ (q : Decision A). Performed model q x (Err (Flash f)) y) (sym e) (f, refl, h)

  -- nothing was given
  pub performed_refused : {A : Type 0} (d : Decision A) (f : UnitFault) (x : F) → d ≡ refuse f → Performed model d x (Err f) x
  performed_refused {A} d f x e = subst (λ (q : Decision A). Performed model q x (Err f) x) (sym e) (refl, refl)

  -- commands that are taken are given, by a caller that stops at the first one that is not done
  pub taken_given : (cs : List Command) (x y : F) (r : Result (Unit {0}) FlashFault) → (model.meaning x).power ≡ true → Taken (model.meaning x).count cs (model.meaning x).word
      → Tried model cs x r y → Given model cs x r y
  taken_given cs x y r p t h = tried_given model cs x y r p t h
