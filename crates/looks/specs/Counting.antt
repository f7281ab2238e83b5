-- A flash that counts the looks at it is the flash below in all else.
--     counting model     what it says of itself
use Rattle.flash.specs.Rules.{Model}
use Rattle.looks.specs.declared.Counting.{Counting}

-- by the flash below
abbrev pub counting : {F : Type 0} → Model F → Model (Counting F)
counting model = record {
  kind = model.kind;
  meaning = λ x. model.meaning x.below;
  did = λ c x y. model.did c x.below y.below;
  lost = λ c x y. model.lost c x.below y.below;
  returned = λ rehearsal x y. model.returned rehearsal x.below y.below;
}
