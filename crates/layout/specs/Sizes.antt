-- Plans and sizes: how the data of a record is shared out among blocks and words.
--     Sizes              a plan: the size in bytes of each data number, from number 0
--     Planned p          1 to 64 data numbers of 1 to 1,024 bytes each
--     followers s        how many following blocks a record of s bytes has
--     blocks_of s        how many blocks in all
--     first_share s      how many of its bytes the first block holds
--     share s j          how many following block j holds
--     head_words s       how many words of the first block hold fields and data
--     data_words s j     how many words of following block j do
use Rattle.std.specs.Prelude.{ℕ, ◌+◌, ◌-◌, ◌*◌, ◌/◌, ◌<◌, ◌≤◌, min, List, length, slice_index}

-- the size of number n stands at place n
abbrev pub Sizes : Type 0
Sizes = List ℕ

-- how many data numbers there are
abbrev pub numbers : Sizes → ℕ
numbers p = length p

-- the size of data number n
abbrev pub size : Sizes → ℕ → ℕ
size p n = slice_index p n

-- a plan that can be made
pub record Planned (p : Sizes) : Type 0 where
  pub some : 1 ≤ numbers p
  pub few : numbers p ≤ 64
  pub sized : (n : ℕ) → n < numbers p → (1 ≤ size p n) × (size p n ≤ 1024)

-- 41 bytes in the first block, 53 in each following one, the last holding the rest
unfoldable pub followers : ℕ → ℕ
followers s = (s - 41 + 52) / 53

-- the first block and the following ones
unfoldable pub blocks_of : ℕ → ℕ
unfolding followers
blocks_of s = 1 + followers s

-- at most 41 bytes
unfoldable pub first_share : ℕ → ℕ
first_share s = min s 41

-- what the blocks before it leave, at most 53 bytes
unfoldable pub share : ℕ → ℕ → ℕ
share s j = min (s - 41 - 53 * j) 53

-- the data begins at byte 11 of a first block, and ends in the last head word
unfoldable pub head_words : ℕ → ℕ
unfolding first_share
head_words s = (10 + first_share s) / 4 + 1

-- the data begins at byte 3 of a following block
unfoldable pub data_words : ℕ → ℕ → ℕ
unfolding share
data_words s j = (2 + share s j) / 4 + 1
