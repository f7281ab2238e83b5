-- What a function answers that only looks at a flash.
--     Answers k s v r    the answer r is v, or the flash's own fault where power is off
--     IfAnswered r q     q holds of what the answer r found, if it found one
--     Read k s b r       the answer r is the words of block b, or the flash's own refusal
use Rattle.std.specs.Prelude.{◌≡◌, ℕ, true, false, Ok, Err, IfSome, IfOk, Option, Result}
use Rattle.flash.specs.declared.fault.FlashFault.{FlashFault}
use Rattle.flash.specs.Faults.{unpowered}
use Rattle.flash.specs.State.{State}
use Rattle.flash.specs.Commands.{reached}
use Rattle.layout.specs.declared.block.BlockWords.{BlockWords}
use Rattle.layout.specs.Reads.{words_of}

-- power is asked first, also on a flash without blocks
abbrev pub Answers : {X : Type 0} → ℕ → State → X → Result X FlashFault → Type 0
Answers k s v (Ok x) = (s.power ≡ true) × (x ≡ v)
Answers k s v (Err f) = (s.power ≡ false) × (f ≡ unpowered k)

-- nothing is said where nothing was found
abbrev pub IfAnswered : {X : Type 0} → Result (Option X) FlashFault → (X → Type 0) → Type 0
IfAnswered r q = IfOk r (λ o. IfSome o q)

-- a block that there is not is refused as a look at its word 0 is
abbrev pub Read : ℕ → State → ℕ → Result BlockWords FlashFault → Type 0
Read k s b (Ok x) = (reached k s b 0 ≡ Ok tt) × (words_of x ≡ s.word b)
Read k s b (Err f) = reached k s b 0 ≡ Err f
