-- The flash rules: what a command answers and leaves, for every kind of flash.
--     Model F                  what a flash of type F says of itself
--     Done, Lost, Refused      the three things that can become of a command
--     Obeys model c x r y      a flash in the value x, told c, may answer r and be left as y
--     Returned model n x y     a return of power with the rehearsal n leaves y
use Rattle.std.specs.Prelude.{◌≡◌, ℕ, ◌⊎◌, Ok, Err, Result}
use Rattle.flash.specs.declared.Rehearsal.{Rehearsal}
use Rattle.flash.specs.declared.fault.FlashFault.{FlashFault}
use Rattle.flash.specs.State.{State, restored}
use Rattle.flash.specs.Commands.{Command, verdict, done, Stopped, loss}

-- its kind number and meaning; and what more a done command, a stopped one and a return of power do to its value than the rules say of its meaning
pub record Model (F : Type 0) : Type 1 where
  pub kind : ℕ
  pub meaning : F → State
  pub did : Command → F → F → Type 0
  pub lost : Command → F → F → Type 0
  pub returned : Rehearsal → F → F → Type 0

-- nothing refuses c, and it is done
abbrev pub Done : {F : Type 0} → Model F → Command → F → F → Type 0
Done model c x y =
    (verdict model.kind c (model.meaning x) ≡ Ok tt) × (model.meaning y ≡ done c (model.meaning x)) × model.did c x y

-- nothing refuses c, and power goes in it
abbrev pub Lost : {F : Type 0} → Model F → Command → F → F → Type 0
Lost model c x y =
    (verdict model.kind c (model.meaning x) ≡ Ok tt) × Stopped c (model.meaning x) (model.meaning y) × model.lost c x y

-- c is refused, which leaves the flash's value as it was
abbrev pub Refused : {F : Type 0} → Model F → Command → F → FlashFault → F → Type 0
Refused model c x f y = (verdict model.kind c (model.meaning x) ≡ Err f) × (y ≡ x)

-- a command is done, or refused, or power goes in it
abbrev pub Obeys : {F : Type 0} → Model F → Command → F → Result (Unit {0}) FlashFault → F → Type 0
Obeys model c x (Ok _) y = Done model c x y
Obeys model c x (Err f) y = Refused model c x f y ⊎ ((f ≡ loss model.kind c) × Lost model c x y)

-- power returns: no word changes
abbrev pub Returned : {F : Type 0} → Model F → Rehearsal → F → F → Type 0
Returned model rehearsal x y = (model.meaning y ≡ restored (model.meaning x)) × model.returned rehearsal x y
