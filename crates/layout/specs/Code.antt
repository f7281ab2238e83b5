-- The code of a record: a CRC of 16 bits with polynomial 1021 hex, start FFFF hex, high bit first, and nothing added at the end.
--     crc xs             the CRC of a list of bytes
--     low_bytes k x      the k low bytes of a number, low byte first
--     code_of n s        the code of data number n and serial s
use Rattle.std.specs.Prelude.{ℕ, zero, suc, ◌*◌, ◌/◌, ◌%◌, cond, List, [], ◌∷◌, ◌++◌, bit_xor, nat_lt}

-- one bit on: shifted left, and the polynomial where a 1 went out
unfoldable pub crc_bit : ℕ → ℕ
crc_bit r = cond (nat_lt r 32768) (r * 2) (bit_xor (r * 2 % 65536) 0x1021)

-- so many bits on
unfoldable pub crc_bits : ℕ → ℕ → ℕ
unfolding crc_bit
crc_bits zero r = r
crc_bits (suc k) r = crc_bits k (crc_bit r)

-- one byte on
unfoldable pub crc_byte : ℕ → ℕ → ℕ
unfolding crc_bits
crc_byte r x = crc_bits 8 (bit_xor r (x * 256))

-- all bytes in turn, from a start
unfoldable pub crc_from : ℕ → List ℕ → ℕ
unfolding crc_byte
crc_from r [] = r
crc_from r (x ∷ xs) = crc_from (crc_byte r x) xs

-- the start is FFFF hex
unfoldable pub crc : List ℕ → ℕ
unfolding crc_from
crc xs = crc_from 0xFFFF xs

-- the low bytes of a number, low byte first
abbrev pub low_bytes : ℕ → ℕ → List ℕ
low_bytes zero x = []
low_bytes (suc k) x = x % 256 ∷ low_bytes k (x / 256)

-- over the two bytes of the number and the four of the serial
unfoldable pub code_of : ℕ → ℕ → ℕ
unfolding crc
code_of n s = crc (low_bytes 2 n ++ low_bytes 4 s)
