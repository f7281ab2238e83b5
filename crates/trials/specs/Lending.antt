-- A lent flash is the flash that is borrowed.
--     lending model     what it says of itself
use Rattle.flash.specs.Rules.{Model}
use Rattle.trials.specs.declared.lent.Lent.{Lent}

-- by the flash that is borrowed
abbrev pub lending : {F : Type 0} → Model F → Model (Lent F)
lending model = record {
  kind = model.kind;
  meaning = λ x. model.meaning x.below.now;
  did = λ c x y. model.did c x.below.now y.below.now;
  lost = λ c x y. model.lost c x.below.now y.below.now;
  returned = λ rehearsal x y. model.returned rehearsal x.below.now y.below.now;
}
