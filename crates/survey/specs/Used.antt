-- The blocks of current records, as a set.
--     Marked t u q       u has the blocks of t, and those that pass q
--     Marks k s t u q r  the answer r says so, or is the flash's own fault where power is off
--     Uses k s p r       the answer r has the blocks of current records, or is the flash's own fault where power is off
use Rattle.std.specs.Prelude.{◌≡◌, ℕ, Bool, true, false, ◌||◌, Ok, Err, Result}
use Rattle.flash.specs.declared.fault.FlashFault.{FlashFault}
use Rattle.flash.specs.Faults.{unpowered}
use Rattle.flash.specs.State.{State}
use Rattle.layout.specs.Sizes.{Sizes}
use Rattle.layout.specs.States.{in_use}
use Rattle.survey.specs.declared.block_set.BlockSet.{BlockSet}
use Rattle.survey.specs.Sets.{member}

-- no other block comes or goes
abbrev pub Marked : BlockSet → BlockSet → (ℕ → Bool) → Type 0
Marked t u q = (b : ℕ) → member u.marks b ≡ (q b || member t.marks b)

-- power is asked first
abbrev pub Marks : ℕ → State → BlockSet → BlockSet → (ℕ → Bool) → Result (Unit {0}) FlashFault → Type 0
Marks k s t u q (Ok _) = (s.power ≡ true) × Marked t u q
Marks k s t u q (Err f) = (s.power ≡ false) × (f ≡ unpowered k)

-- the set has a block exactly where it is in use
abbrev pub Uses : ℕ → State → Sizes → Result BlockSet FlashFault → Type 0
Uses k s p (Ok u) = (s.power ≡ true) × ((b : ℕ) → member u.marks b ≡ in_use s.count s.word p b)
Uses k s p (Err f) = (s.power ≡ false) × (f ≡ unpowered k)
