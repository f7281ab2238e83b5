-- The value of a number, copied to the front of a buffer.
--     Copying v z d r o         r and o are the answer and the buffer after copying the value v, of z bytes, into the buffer d
--     recorded count m p n b    the data of a sound record, by its first block
--     CopiesData k s v z d r o  the same on a flash, or the flash's own fault where power is off
--     Copies k s p n d r o      the same of the value of data number n
use Rattle.std.specs.Prelude.{◌≡◌, ℕ, true, false, cond, List, ◌++◌, length, drop, Some, None, Ok, Err, MatchBool, Option, Result, nat_le}
use Rattle.flash.specs.Faults.{unpowered}
use Rattle.flash.specs.State.{State, Memory}
use Rattle.layout.specs.Sizes.{Sizes, size}
use Rattle.layout.specs.Sound.{sound}
use Rattle.layout.specs.Records.{data_at, value}
use Rattle.values.specs.declared.CopyFault.{CopyFault}
use Rattle.values.specs.declared.CopyFault.TheVariants.{NoValue, TooShort, Flash}

-- the answer of a copy
abbrev pub Copied : Type 0
Copied = Result (Unit {0}) CopyFault

-- what the value does not cover stays; without a value, or room for it, all stays
abbrev pub Copying : Option (List ℕ) → ℕ → List ℕ → Copied → List ℕ → Type 0
Copying None z d r o = (r ≡ Err NoValue) × (o ≡ d)
Copying (Some v) z d r o = MatchBool (nat_le z (length d)) ((r ≡ Ok tt) × (o ≡ v ++ drop z d)) ((r ≡ Err TooShort) × (o ≡ d))

-- the data of the record of number n whose first block is b, if it is sound
abbrev pub recorded : ℕ → Memory → Sizes → ℕ → ℕ → Option (List ℕ)
recorded count m p n b = cond (sound count m p n b) (Some (data_at m p n b)) None

-- power is asked first
abbrev pub CopiesData : ℕ → State → Option (List ℕ) → ℕ → List ℕ → Copied → List ℕ → Type 0
CopiesData k s v z d (Ok x) o = (s.power ≡ true) × Copying v z d (Ok x) o
CopiesData k s v z d (Err NoValue) o = (s.power ≡ true) × Copying v z d (Err NoValue) o
CopiesData k s v z d (Err TooShort) o = (s.power ≡ true) × Copying v z d (Err TooShort) o
CopiesData k s v z d (Err (Flash f)) o = (s.power ≡ false) × (f ≡ unpowered k) × (o ≡ d)

-- what is copied of a number is its value
abbrev pub Copies : ℕ → State → Sizes → ℕ → List ℕ → Copied → List ℕ → Type 0
Copies k s p n d r o = CopiesData k s (value s.count s.word p n) (size p n) d r o
