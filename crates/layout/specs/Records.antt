-- Current records and values. Words are those of a flash of so many blocks, under a plan.
--     current count m p n        the first block of the current record of number n, if there is one
--     Current count m p n o      what it is to be that
--     blocks_at m p n b          the blocks of the record of number n whose first block is b
--     data_at m p n b            its data
--     value count m p n          the value of number n, if it has one
--     newest count m p           the first block of the newest record
--     round count m p            all blocks, in the order in which they are taken
use Rattle.std.specs.Prelude.{◌≡◌, ℕ, zero, suc, ◌-◌, ◌<◌, ◌≤◌, Bool, true, false, cond, ◌&&◌, ◌||◌, ◌⊎◌, List, [], ◌∷◌, ◌++◌, Some, None, Option, ◌==◌, nat_lt}
use Rattle.std.specs.List.{range_with_len}
use Rattle.flash.specs.State.{Memory}
use Rattle.layout.specs.Sizes.{Sizes, numbers, size, followers, first_share, share}
use Rattle.layout.specs.Fields.{chain, serial, bytes}
use Rattle.layout.specs.Sound.{sound}

-- the better of the best first block so far and block b, which passes the test or not: the higher serial, ties to the lower block
abbrev pub better : Memory → Option ℕ → ℕ → Bool → Option ℕ
better m o b false = o
better m None b true = Some b
better m (Some c) b true = cond (nat_lt (serial (m c)) (serial (m b))) (Some b) (Some c)

-- the best of the blocks below a number that pass a test
abbrev pub best : (ℕ → Bool) → Memory → ℕ → Option ℕ
best t m zero = None
best t m (suc b) = better m (best t m b) b (t b)

-- the best of the sound first blocks of a number
unfoldable pub current : ℕ → Memory → Sizes → ℕ → Option ℕ
current count m p n = best (sound count m p n) m count

-- no sound first block; or the one of highest serial, ties to the lower block
abbrev pub Current : ℕ → Memory → Sizes → ℕ → Option ℕ → Type 0
Current count m p n None = (b : ℕ) → sound count m p n b ≡ false
Current count m p n (Some b) =
    (sound count m p n b ≡ true)
    × ((c : ℕ) → sound count m p n c ≡ true → (serial (m c) < serial (m b)) ⊎ ((serial (m c) ≡ serial (m b)) × (b ≤ c)))

-- the l following blocks from block c on
abbrev pub chained : Memory → ℕ → ℕ → List ℕ
chained m c zero = []
chained m c (suc l) = c ∷ chained m (chain (m c)) l

-- the first block, then the following ones in chain order
unfoldable pub blocks_at : Memory → Sizes → ℕ → ℕ → List ℕ
blocks_at m p n b = b ∷ chained m (chain (m b)) (followers (size p n))

-- the data in l following blocks, from following block j, at c, on
abbrev pub data_from : Memory → ℕ → ℕ → ℕ → ℕ → List ℕ
data_from m s j c zero = []
data_from m s j c (suc l) = bytes (m c) 3 (share s j) ++ data_from m s (suc j) (chain (m c)) l

-- the data of the first block, then that of the following ones
unfoldable pub data_at : Memory → Sizes → ℕ → ℕ → List ℕ
data_at m p n b = bytes (m b) 11 (first_share (size p n)) ++ data_from m (size p n) 0 (chain (m b)) (followers (size p n))

-- a function of what is there, if anything is
abbrev pub over : {A : Type 0} → (ℕ → A) → Option ℕ → Option A
over f None = None
over f (Some b) = Some (f b)

-- a number without a current record has no value
unfoldable pub value : ℕ → Memory → Sizes → ℕ → Option (List ℕ)
value count m p n = over (data_at m p n) (current count m p n)

-- the newer of two current records: the higher serial, ties to the lower block
abbrev pub newer : Memory → Option ℕ → Option ℕ → Option ℕ
newer m None o = o
newer m (Some b) None = Some b
newer m (Some b) (Some c) =
    cond (nat_lt (serial (m b)) (serial (m c)) || (serial (m b) == serial (m c) && nat_lt c b)) (Some c) (Some b)

-- the newest of the current records of the numbers below n
abbrev pub newest_below : ℕ → Memory → Sizes → ℕ → Option ℕ
newest_below count m p zero = None
newest_below count m p (suc n) = newer m (newest_below count m p n) (current count m p n)

-- of all current records
unfoldable pub newest : ℕ → Memory → Sizes → Option ℕ
newest count m p = newest_below count m p (numbers p)

-- the block after a first block, 0 without one
abbrev pub after : Option ℕ → ℕ
after None = 0
after (Some b) = suc b

-- going up from the block after the newest record's first block, round the end
unfoldable pub round : ℕ → Memory → Sizes → List ℕ
round count m p = range_with_len (after (newest count m p)) (count - after (newest count m p)) ++ range_with_len 0 (after (newest count m p))
