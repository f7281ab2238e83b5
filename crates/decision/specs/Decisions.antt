-- Every call of a unit is the same sentence: on the flash that it finds it decides to refuse, or to give a list of commands and then an answer; and the list is done, or power goes in one of its commands.
--     Decision A             a refusal, or commands and an answer
--     Operation A            what a call decides, from the kind number and the state of the flash that it finds
--     Performed model d x r y    what may come of a decision, over the values of a flash: the answer r and the value y
--     Outcome k d s r t      the same over states
--     Performs, Does         what may come of a call
--     unless t e d           the decision d, unless the test t refuses with e
--     Decided s d cs a r     r stands for the decision d, made in the state s
use Rattle.std.specs.Prelude.{◌≡◌, ℕ, Bool, true, false, List, Ok, Err, Result}
use Rattle.flash.specs.declared.fault.FlashFault.{FlashFault}
use Rattle.flash.specs.State.{State}
use Rattle.flash.specs.Commands.{Command}
use Rattle.flash.specs.Rules.{Model}
use Rattle.flash.specs.Lists.{Through, Cut, all_done, Interrupted, Taken}
use Rattle.decision.specs.declared.fault.UnitFault.{UnitFault}
use Rattle.decision.specs.declared.fault.UnitFault.TheVariants.{Flash}

-- to refuse, or to give commands and then answer
pub data Decision (A : Type 0) : Type 0 where
  refuse : UnitFault → Decision A
  perform : List Command → A → Decision A

-- on a flash of this kind number in this state
abbrev pub Operation : Type 0 → Type 0
Operation A = ℕ → State → Decision A

-- a refusal leaves the flash's value as it was; every command is done and the answer given; or commands are done up to one in which power goes, whose fault passes upward
abbrev pub Performed : {F A : Type 0} → Model F → Decision A → F → Result A UnitFault → F → Type 0
Performed model (refuse e) x r y = (r ≡ Err e) × (y ≡ x)
Performed model (perform cs a) x (Ok z) y = (z ≡ a) × Through model cs x y
Performed model (perform cs a) x (Err e) y = (f : FlashFault) × (e ≡ Flash f) × Cut model cs x f y

-- the same over states
abbrev pub Outcome : {A : Type 0} → ℕ → Decision A → State → Result A UnitFault → State → Type 0
Outcome k (refuse e) s r t = (r ≡ Err e) × (t ≡ s)
Outcome k (perform cs a) s (Ok z) t = (z ≡ a) × (t ≡ all_done cs s)
Outcome k (perform cs a) s (Err e) t = (f : FlashFault) × (e ≡ Flash f) × Interrupted k cs s f t

-- what a call answers and leaves: it decides on the flash as it finds it
abbrev pub Performs : {F A : Type 0} → Model F → Operation A → F → Result A UnitFault → F → Type 0
Performs model call x r y = Performed model (call model.kind (model.meaning x)) x r y

-- the same over states
abbrev pub Does : {A : Type 0} → ℕ → Operation A → State → Result A UnitFault → State → Type 0
Does k call s r t = Outcome k (call k s) s r t

-- the first test that is passed refuses
abbrev pub unless : {A : Type 0} → Bool → UnitFault → Decision A → Decision A
unless true e d = refuse e
unless false e d = d

-- what stands for a decision: x for that to give the commands of x and answer as x says, with power on and no command that the flash would refuse
abbrev pub Decided : {A X : Type 0} → State → Decision A → (X → List Command) → (X → A) → Result X UnitFault → Type 0
Decided s d commands answer (Ok x) = (d ≡ perform (commands x) (answer x)) × (s.power ≡ true) × Taken s.count (commands x) s.word
Decided s d commands answer (Err e) = d ≡ refuse e
