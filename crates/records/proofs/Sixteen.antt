-- Sixteen words that were read are the words of the block.
use Rattle.std.proofs.Common.{◌≡◌, ℕ, ◌<◌, true, List, length, get_or, None, Ok, Err, Option, Result, sym, ◌∙◌, arith}
use Rattle.std.proofs.lemmas.Bool.Decides.{nat_tests}
use Rattle.flash.specs.declared.fault.FlashFault.{FlashFault}
use Rattle.flash.specs.State.{State}
use Rattle.flash.specs.Commands.{reached}

-- the words below w are read, with power on; once one is read the block is one of the flash's
abbrev pub Reading : State → ℕ → ℕ → List (Option ℕ) → Type 0
Reading s b w xs = (length xs ≡ 16) × ((k : ℕ) → k < w → get_or xs k None ≡ s.word b k) × (s.power ≡ true) × (0 < w → b < s.count)

-- a block of a flash with power is read
pub not_refused : (k : ℕ) (s : State) (b : ℕ) (f : FlashFault) → s.power ≡ true → b < s.count → reached k s b 0 ≡ Err f → ⊥
not_refused k s b f on i h =
    let ok : reached k s b 0 ≡ Ok tt = grind (arith, nat_tests) in
    let e : ◌≡◌ {A = Result (Unit {0}) FlashFault} (Ok tt) (Err f) = sym ok ∙ h in
    let z : ◌≡◌ {A = ℕ} 0 1 = cc in omega arith
