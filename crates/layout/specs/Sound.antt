-- Sound records: which blocks of a flash hold a complete record.
--     type_number t              the byte that stands for the type t of a block
--     first_type s               the type of the first block of a record of s bytes
--     candidate p n m            the words m are those of a first block of number n, apart from its code and its chain
--     coded m                    the code is right
--     follows s j m              the words m are those of following block j of a record of s bytes, apart from its chain
--     leads count m s b j c l    the chain goes from block c through following blocks j, j + 1, .., l of them, to block b
--     sound count m p n b        block b is a sound first block of number n
use Rattle.std.specs.Prelude.{ℕ, zero, suc, Bool, cond, ◌&&◌, ◌==◌, nat_le, nat_lt}
use Rattle.flash.specs.State.{Words, Memory}
use Rattle.layout.specs.declared.block_type.BlockType.{BlockType}
use Rattle.layout.specs.declared.block_type.BlockType.TheVariants.{Short, Long, Following}
use Rattle.layout.specs.Sizes.{Sizes, numbers, size, followers, head_words, data_words}
use Rattle.layout.specs.Fields.{kind_of, chain, number, serial, code, written, blank, all_written, all_blank}
use Rattle.layout.specs.Code.{code_of}

-- the only block of a short record, the first one of a long record, a following one
abbrev pub type_number : BlockType → ℕ
type_number Short = 1
type_number Long = 2
type_number Following = 3

-- up to 41 bytes are short
abbrev pub first_type : ℕ → BlockType
first_type s = cond (nat_le s 41) Short Long

-- the type suits the size, the number is the plan's and the one asked for, the head words are written and those after them blank, write end and erase end are written, erase start is blank
unfoldable pub candidate : Sizes → ℕ → Words → Bool
candidate p n m =
    nat_lt n (numbers p)
    && kind_of m == type_number (first_type (size p n))
    && number m == n
    && all_written m 0 (head_words (size p n))
    && all_blank m (head_words (size p n)) 13
    && written (m 13)
    && blank (m 14)
    && written (m 15)

-- the code field is the code of number and serial
unfoldable pub coded : Words → Bool
coded m = code m == code_of (number m) (serial m)

-- the type of a following block, the data words written and those after them blank, erase start blank and erase end written
unfoldable pub follows : ℕ → ℕ → Words → Bool
follows s j m =
    (kind_of m == type_number Following)
    && all_written m 0 (data_words s j)
    && all_blank m (data_words s j) 14
    && blank (m 14)
    && written (m 15)

-- every block on the way is one of the flash's
abbrev pub leads : ℕ → Memory → ℕ → ℕ → ℕ → ℕ → ℕ → Bool
leads count m s b j c zero = c == b
leads count m s b j c (suc l) = nat_lt c count && follows s j (m c) && leads count m s b (suc j) (chain (m c)) l

-- its chain leads through exactly the following blocks that the size requires back to itself
unfoldable pub sound : ℕ → Memory → Sizes → ℕ → ℕ → Bool
sound count m p n b =
    nat_lt b count && candidate p n (m b) && coded (m b) && leads count m (size p n) b 0 (chain (m b)) (followers (size p n))
