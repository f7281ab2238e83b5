-- The bytes and fields of a block, from its words. Numbers of several bytes have the low byte first.
--     low x k            byte k of a number
--     byte m k           byte k of a block, 0 where its word is blank
--     number_at m k l    the number of l bytes of a block from byte k on
--     bytes m k l        these bytes
--     kind_of, chain, number, serial, code    the fields of a first block; a following block has the first two
--     written, blank     what a word is
use Rattle.std.specs.Prelude.{ℕ, zero, suc, ◌+◌, ◌-◌, ◌*◌, ◌/◌, ◌%◌, ◌^◌, Bool, true, false, not, ◌&&◌, List, map, Some, None, Option}
use Rattle.std.specs.List.{range_with_len}
use Rattle.std.specs.Option.{unwrap_or}
use Rattle.flash.specs.State.{Words}

-- the low byte is byte 0
unfoldable pub low : ℕ → ℕ → ℕ
low x k = x / 256 ^ k % 256

-- the number in a word, 0 where it is blank
abbrev pub held : Option ℕ → ℕ
held o = unwrap_or o 0

-- word w holds bytes 4 × w to 4 × w + 3
unfoldable pub byte : Words → ℕ → ℕ
unfolding low
byte m k = low (held (m (k / 4))) (k % 4)

-- the number of l bytes from byte k on
abbrev pub number_at : Words → ℕ → ℕ → ℕ
number_at m k zero = 0
number_at m k (suc l) = byte m k + 256 * number_at m (suc k) l

-- l bytes from byte k on
unfoldable pub bytes : Words → ℕ → ℕ → List ℕ
unfolding byte
bytes m k l = map (byte m) (range_with_len k l)

-- byte 0: the type of a block, 1 short, 2 long, 3 following
unfoldable pub kind_of : Words → ℕ
unfolding byte
kind_of m = byte m 0

-- bytes 1 and 2: the next block of the record
unfoldable pub chain : Words → ℕ
unfolding byte
chain m = number_at m 1 2

-- bytes 3 and 4: the data number
unfoldable pub number : Words → ℕ
unfolding byte
number m = number_at m 3 2

-- bytes 5 to 8
unfoldable pub serial : Words → ℕ
unfolding byte
serial m = number_at m 5 4

-- bytes 9 and 10
unfoldable pub code : Words → ℕ
unfolding byte
code m = number_at m 9 2

-- a word that is not blank
abbrev pub written : Option ℕ → Bool
written None = false
written (Some v) = true

-- a word that is not written
abbrev pub blank : Option ℕ → Bool
blank v = not (written v)

-- a test is passed by l numbers from k on
abbrev pub all_from : (ℕ → Bool) → ℕ → ℕ → Bool
all_from t k zero = true
all_from t k (suc l) = t k && all_from t (suc k) l

-- the words from k up to, and not with, l are written, or blank
abbrev pub all_written : Words → ℕ → ℕ → Bool
all_written m k l = all_from (λ w. written (m w)) k (l - k)

-- the same, blank
abbrev pub all_blank : Words → ℕ → ℕ → Bool
all_blank m k l = all_from (λ w. blank (m w)) k (l - k)
