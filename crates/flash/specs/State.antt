-- What a flash means: how many blocks it has, whether power is on, and what each word holds.
--     State              the three together
--     Shaped s           at most 256 blocks of 16 words, and nothing outside them
--     put m b w v        the words m with one of them changed
--     wipe m b           the words m with block b made blank
--     fade m b marked    the words m with the marked ones of block b made blank
--     powered p s m      the state s with power on or off and other words
--     restored s         the state s after the return of power
use Rattle.std.specs.Prelude.{◌≡◌, ℕ, ◌^◌, ◌<◌, ◌≤◌, Bool, true, false, cond, ◌&&◌, Some, None, Option, ◌==◌, nat_lt}

-- the words of a block: blank, or the number of the four bytes, low byte first
abbrev pub Words : Type 0
Words = ℕ → Option ℕ

-- the words of a flash, by block
abbrev pub Memory : Type 0
Memory = ℕ → Words

-- block count, power on or off, words
pub record State : Type 0 where
  pub count : ℕ
  pub power : Bool
  pub word : Memory

-- at most 256 blocks of 16 words; what is not one of their words is blank
pub record Shaped (s : State) : Type 0 where
  pub few : s.count ≤ 256
  pub outside : (b w : ℕ) → (nat_lt b s.count && nat_lt w 16) ≡ false → s.word b w ≡ None

-- blank, or written with some four bytes
abbrev pub Word4 : Option ℕ → Type 0
Word4 None = Unit {0}
Word4 (Some v) = v < 2 ^ 32

-- word w of block b changed, and no other
abbrev pub put : Memory → ℕ → ℕ → Option ℕ → Memory
put m b w v c x = cond (b == c && w == x) v (m c x)

-- block b made blank, and no other
abbrev pub wipe : Memory → ℕ → Memory
wipe m b c x = cond (b == c) None (m c x)

-- the marked words of block b made blank, and no other
abbrev pub fade : Memory → ℕ → (ℕ → Bool) → Memory
fade m b marked c x = cond (b == c && marked x) None (m c x)

-- a flash keeps its blocks, whatever becomes of its power and its words
abbrev pub powered : Bool → State → Memory → State
powered p s m = record { count = s.count; power = p; word = m }

-- the return of power changes no word and turns power on
abbrev pub restored : State → State
restored s = powered true s s.word
