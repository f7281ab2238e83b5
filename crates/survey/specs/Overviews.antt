-- What one look over a flash finds: the current records and the state of every block.
--     Overviews k s p r      the answer r has both, or is the flash's own fault where power is off
use Rattle.std.specs.Prelude.{◌≡◌, ℕ, true, false, Ok, Err, Result}
use Rattle.flash.specs.declared.fault.FlashFault.{FlashFault}
use Rattle.flash.specs.Faults.{unpowered}
use Rattle.flash.specs.State.{State}
use Rattle.layout.specs.Sizes.{Sizes}
use Rattle.records.specs.Tables.{Tabled}
use Rattle.survey.specs.declared.overview.Overview.{Overview}
use Rattle.records.specs.Entries.{entry_in}
use Rattle.survey.specs.Entries.{entry_of}

-- power is asked first
abbrev pub Overviews : ℕ → State → Sizes → Result Overview FlashFault → Type 0
Overviews k s p (Ok o) =
    (s.power ≡ true) × Tabled s.count s.word p o.heads × ((b : ℕ) → entry_in o.survey b ≡ entry_of s.count s.word p b)
Overviews k s p (Err f) = (s.power ≡ false) × (f ≡ unpowered k)
