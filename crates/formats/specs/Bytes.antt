-- Numbers and bits in a list of bytes.
--     bit x k            whether bit k of x is 1
--     four m i           the number of the four bytes of m from i on, low byte first
--     put_four m i v     those four bytes set to v
--     put_bit m i k on   bit k of byte i set to 1 or 0
use Rattle.std.specs.Prelude.{ℕ, ◌+◌, ◌-◌, ◌*◌, ◌/◌, ◌%◌, ◌^◌, Bool, true, false, List, ◌==◌, bit_and, bit_or, slice_index, slice_set}

-- bit 0 is the lowest
abbrev pub bit : ℕ → ℕ → Bool
bit x k = x / 2 ^ k % 2 == 1

-- a byte with its bit k set to 1 or 0
abbrev pub with_bit : ℕ → ℕ → Bool → ℕ
with_bit x k true = bit_or x (2 ^ k)
with_bit x k false = bit_and x (255 - 2 ^ k)

-- one bit of a list of bytes set to 1 or 0
abbrev pub put_bit : List ℕ → ℕ → ℕ → Bool → List ℕ
put_bit m i k on = slice_set m i (with_bit (slice_index m i) k on)

-- four bytes as one number
abbrev pub four : List ℕ → ℕ → ℕ
four m i = slice_index m i + 256 * slice_index m (i + 1) + 65536 * slice_index m (i + 2) + 16777216 * slice_index m (i + 3)

-- the four bytes of a number put into a list
abbrev pub put_four : List ℕ → ℕ → ℕ → List ℕ
put_four m i v = slice_set (slice_set (slice_set (slice_set m i (v % 256)) (i + 1) (v / 256 % 256)) (i + 2) (v / 65536 % 256)) (i + 3) (v / 16777216 % 256)
