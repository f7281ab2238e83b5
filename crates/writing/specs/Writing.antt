-- The commands that write a record, from its number, serial, data and the blocks taken for it.
--     word_of l w                            the number of word w of a block whose first bytes are l, and FF hex after them
--     follow_bytes z j next d                the first bytes of following block j of a record of z bytes
--     programs b l k                         the words 0 to k - 1 of block b programmed with these bytes
--     follow_commands z b d j bs             the following blocks bs, in chain order
--     first_bytes_by_size z n s next d       the first bytes of its first block: fields and data
--     first_commands_by_size z n s d b next  the first block, write end last
--     record_commands_by_size z n s d b bs   the whole record: following blocks, then the first block
--     record_on z n s d bs                   the same on a list of blocks, the first block first
--     first_bytes p n s next d               the same three by a plan, which tells the size of number n
--     first_commands p n s d b next
--     record_commands p n s d b bs
--     commands_of z                          how many commands the record of a number of z bytes takes
use Rattle.std.specs.Prelude.{ℕ, suc, ◌+◌, ◌*◌, List, [], ◌∷◌, ◌++◌, map, take, drop, slice_index_or}
use Rattle.std.specs.List.{range_with_len, sum_by}
use Rattle.flash.specs.Commands.{Command, program}
use Rattle.clearing.specs.Clearing.{mark}
use Rattle.layout.specs.declared.block_type.BlockType.TheVariants.{Following}
use Rattle.layout.specs.Sizes.{Sizes, size, followers, first_share, share, head_words, data_words}
use Rattle.layout.specs.Code.{low_bytes, code_of}
use Rattle.layout.specs.Sound.{type_number, first_type}

-- unused bytes are FF hex
unfoldable pub word_of : List ℕ → ℕ → ℕ
word_of l w = slice_index_or l (4 * w) 255 + 256 * slice_index_or l (4 * w + 1) 255 + 65536 * slice_index_or l (4 * w + 2) 255 + 16777216 * slice_index_or l (4 * w + 3) 255

-- type, chain, data
unfoldable pub follow_bytes : ℕ → ℕ → ℕ → List ℕ → List ℕ
follow_bytes z j next d = type_number Following ∷ low_bytes 2 next ++ take (share z j) (drop (41 + 53 * j) d)

-- words ascending
abbrev pub programs : ℕ → List ℕ → ℕ → List Command
programs b l k = map (λ w. program b w (word_of l w)) (range_with_len 0 k)

-- the block after which the chain goes on: the next following block, or the first block again
abbrev pub next_of : ℕ → List ℕ → ℕ
next_of first [] = first
next_of first (b ∷ bs) = b

-- from following block j on
abbrev pub follow_commands : ℕ → ℕ → List ℕ → ℕ → List ℕ → List Command
follow_commands z first d j [] = []
follow_commands z first d j (b ∷ bs) =
    programs b (follow_bytes z j (next_of first bs) d) (data_words z j) ++ follow_commands z first d (suc j) bs

-- type, chain, number, serial, code, data
unfoldable pub first_bytes_by_size : ℕ → ℕ → ℕ → ℕ → List ℕ → List ℕ
first_bytes_by_size z n s next d =
    type_number (first_type z)
    ∷ low_bytes 2 next ++ low_bytes 2 n ++ low_bytes 4 s ++ low_bytes 2 (code_of n s) ++ take (first_share z) d

-- the words of the first block, and then write end
unfoldable pub first_commands_by_size : ℕ → ℕ → ℕ → List ℕ → ℕ → ℕ → List Command
first_commands_by_size z n s d b next = programs b (first_bytes_by_size z n s next d) (head_words z) ++ (program b 13 mark ∷ [])

-- a first block finished before its following blocks would name data that is not there
unfoldable pub record_commands_by_size : ℕ → ℕ → ℕ → List ℕ → ℕ → List ℕ → List Command
record_commands_by_size z n s d b bs = follow_commands z b d 0 bs ++ first_commands_by_size z n s d b (next_of b bs)

-- the first block is the first of them; without blocks there is nothing to write
abbrev pub record_on : ℕ → ℕ → ℕ → List ℕ → List ℕ → List Command
record_on z n s d [] = []
record_on z n s d (b ∷ bs) = record_commands_by_size z n s d b bs

-- of the size that the plan gives the number
abbrev pub first_bytes : Sizes → ℕ → ℕ → ℕ → List ℕ → List ℕ
first_bytes p n s next d = first_bytes_by_size (size p n) n s next d

-- of that size
abbrev pub first_commands : Sizes → ℕ → ℕ → List ℕ → ℕ → ℕ → List Command
first_commands p n s d b next = first_commands_by_size (size p n) n s d b next

-- of that size
abbrev pub record_commands : Sizes → ℕ → ℕ → List ℕ → ℕ → List ℕ → List Command
record_commands p n s d b bs = record_commands_by_size (size p n) n s d b bs

-- the words of each block, and write end
unfoldable pub commands_of : ℕ → ℕ
commands_of z = sum_by (data_words z) (range_with_len 0 (followers z)) + head_words z + 1
