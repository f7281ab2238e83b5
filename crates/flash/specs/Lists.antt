-- Lists of commands, given in order to a flash, to the end or up to the one in which power goes.
--     Through model cs x y     each command of cs is done in turn, from the value x to the value y
--     Cut model cs x f y       commands of cs are done in turn up to one in which power goes, with the fault f
--     Given model cs x r y     either, by the answer r
--     Told model v cs x r y    the list is refused at once by the verdict v, or given
--     Ran k cs s r t           what `Given` says of the meanings alone: the same over states
--     Tried model cs x r y     commands given in turn up to one that is refused or stopped
--     Taken n cs m             no command of cs is refused on n blocks with the words m and power
--     Spares b cs              no command of cs touches block b
use Rattle.std.specs.Prelude.{◌≡◌, ℕ, ◌<◌, ◌⊎◌, List, [], ◌∷◌, None, Ok, Err, Result, ◌≢◌}
use Rattle.flash.specs.declared.fault.FlashFault.{FlashFault}
use Rattle.flash.specs.State.{State, Memory, powered}
use Rattle.flash.specs.Commands.{Command, program, erase, block_of, applied, done, Stopped, loss}
use Rattle.flash.specs.Rules.{Model, Done, Lost, Obeys}

-- to the end
abbrev pub Through : {F : Type 0} → Model F → List Command → F → F → Type 0
Through model [] x y = y ≡ x
Through {F} model (c ∷ cs) x y = (z : F) × Done model c x z × Through model cs z y

-- up to the one in which power goes
abbrev pub Cut : {F : Type 0} → Model F → List Command → F → FlashFault → F → Type 0
Cut model [] x f y = ⊥
Cut {F} model (c ∷ cs) x f y = ((f ≡ loss model.kind c) × Lost model c x y) ⊎ ((z : F) × Done model c x z × Cut model cs z f y)

-- to the end, or cut off
abbrev pub Given : {F : Type 0} → Model F → List Command → F → Result (Unit {0}) FlashFault → F → Type 0
Given model cs x (Ok _) y = Through model cs x y
Given model cs x (Err f) y = Cut model cs x f y

-- a refusal leaves the flash's value as it was
abbrev pub Told : {F : Type 0} → Model F → Result (Unit {0}) FlashFault → List Command → F → Result (Unit {0}) FlashFault → F → Type 0
Told model v cs x (Ok _) y = (v ≡ Ok tt) × Through model cs x y
Told model v cs x (Err f) y = ((v ≡ Err f) × (y ≡ x)) ⊎ ((v ≡ Ok tt) × Cut model cs x f y)

-- the words, and the state, after a list of commands that were done
abbrev pub applied_all : List Command → Memory → Memory
applied_all [] m = m
applied_all (c ∷ cs) m = applied_all cs (applied c m)

-- power stays
abbrev pub all_done : List Command → State → State
all_done cs s = powered s.power s (applied_all cs s.word)

-- commands done in turn up to one in which power goes, over states
abbrev pub Interrupted : ℕ → List Command → State → FlashFault → State → Type 0
Interrupted k [] s f t = ⊥
Interrupted k (c ∷ cs) s f t = ((f ≡ loss k c) × Stopped c s t) ⊎ Interrupted k cs (done c s) f t

-- to the end, or cut off, over states
abbrev pub Ran : ℕ → List Command → State → Result (Unit {0}) FlashFault → State → Type 0
Ran k cs s (Ok _) t = t ≡ all_done cs s
Ran k cs s (Err f) t = Interrupted k cs s f t

-- what a caller does that stops at the first command that is not done
abbrev pub Tried : {F : Type 0} → Model F → List Command → F → Result (Unit {0}) FlashFault → F → Type 0
Tried model [] x r y = (r ≡ Ok tt) × (y ≡ x)
Tried {F} model (c ∷ cs) x r y =
    ((z : F) × Done model c x z × Tried model cs z r y) ⊎ ((f : FlashFault) × (r ≡ Err f) × Obeys model c x (Err f) y)

-- a flash of n blocks with power and the words m does not refuse the command
abbrev pub Takes : ℕ → Command → Memory → Type 0
Takes n (program b w v) m = (b < n) × (w < 16) × (m b w ≡ None)
Takes n (erase b) m = b < n

-- each of them, after those before it
abbrev pub Taken : ℕ → List Command → Memory → Type 0
Taken n [] m = Unit {0}
Taken n (c ∷ cs) m = Takes n c m × Taken n cs (applied c m)

-- each command is of another block
abbrev pub Spares : ℕ → List Command → Type 0
Spares b [] = Unit {0}
Spares b (c ∷ cs) = (block_of c ≢ b) × Spares b cs
