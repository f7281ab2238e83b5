-- What the commands of a record leave when they are done on free blocks.
--     Bare u             a free block's words: blank but for erase end
--     Suits ..           number, serial, data and blocks suit the plan and the flash
--     Counts z r         a record of z bytes takes r commands
--     Wrote ..           the record stands in its blocks as it was given, and no other word changed
--     SoundWhenDone      the law: the commands of a record leave that
use Rattle.std.specs.Prelude.{◌≡◌, ℕ, ◌^◌, ◌<◌, ◌≤◌, true, false, List, [], ◌∷◌, length, None, ◌≢◌}
use Rattle.std.specs.List.{AllByRecursion}
use Rattle.flash.specs.State.{Words, Memory}
use Rattle.flash.specs.Lists.{applied_all}
use Rattle.layout.specs.Sizes.{Sizes, Planned, numbers, size, followers}
use Rattle.layout.specs.Fields.{serial, written}
use Rattle.layout.specs.Sound.{sound}
use Rattle.layout.specs.Records.{blocks_at, data_at}
use Rattle.layout.specs.States.{holds}
use Rattle.writing.specs.Writing.{record_commands}

-- all words but erase end are blank
abbrev pub Bare : Words → Type 0
Bare u = ((w : ℕ) → (w ≢ 15) → u w ≡ None) × (written (u 15) ≡ true)

-- no block twice
abbrev pub Distinct : List ℕ → Type 0
Distinct [] = Unit {0}
Distinct (c ∷ cs) = (holds cs c ≡ false) × Distinct cs

-- the first block is b, the following ones are bs
pub record Suits (count : ℕ) (p : Sizes) (n s : ℕ) (d : List ℕ) (b : ℕ) (bs : List ℕ) (m : Memory) : Type 0 where
  pub few : count ≤ 256
  pub planned : Planned p
  pub known : n < numbers p
  pub sized : length d ≡ size p n
  pub bytes : AllByRecursion (λ x. x < 256) d
  pub counted : s < 2 ^ 32
  pub enough : length bs ≡ followers (size p n)
  pub inside : AllByRecursion (λ x. x < count) (b ∷ bs)
  pub apart : Distinct (b ∷ bs)
  pub free : (x : ℕ) → holds (b ∷ bs) x ≡ true → Bare (m x)

-- the record is sound, with the serial, data and blocks that it was given; no erase mark and no other block changes
pub record Wrote (count : ℕ) (p : Sizes) (n s : ℕ) (d : List ℕ) (b : ℕ) (bs : List ℕ) (m m' : Memory) : Type 0 where
  pub whole : sound count m' p n b ≡ true
  pub numbered : serial (m' b) ≡ s
  pub kept : data_at m' p n b ≡ d
  pub placed : blocks_at m' p n b ≡ b ∷ bs
  pub marks : (x w : ℕ) → 13 < w → m' x w ≡ m x w
  pub others : (x : ℕ) → holds (b ∷ bs) x ≡ false → m' x ≡ m x

-- whatever the flash held elsewhere
abbrev pub SoundWhenDone : Type 0
SoundWhenDone =
    (count : ℕ) (p : Sizes) (n s : ℕ) (d : List ℕ) (b : ℕ) (bs : List ℕ) (m : Memory) → Suits count p n s d b bs m
    → Wrote count p n s d b bs m (applied_all (record_commands p n s d b bs) m)

-- the count of commands depends on the size alone, and not on the data or the blocks taken
abbrev pub Counts : ℕ → ℕ → Type 0
Counts z r =
    (p : Sizes) (n s : ℕ) (d : List ℕ) (b : ℕ) (bs : List ℕ) → size p n ≡ z → length bs ≡ followers z → length (record_commands p n s d b bs) ≡ r
