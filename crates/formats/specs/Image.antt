-- Kind 1, an image: the 64 bytes of every block, then two bytes a block whose bit w is 1 where word w is written.
--     image              the form of an image
use Rattle.std.specs.Prelude.{ℕ, ◌+◌, ◌*◌, ◌/◌, ◌%◌, Bool, true, false, cond, ◌&&◌, List, length, Some, None, Option, nat_lt, slice_index}
use Rattle.formats.specs.Bytes.{bit, four, put_four, put_bit}
use Rattle.formats.specs.Forms.{Form, blocks_of}

-- how many blocks an image has
abbrev pub image_blocks : List ℕ → ℕ
image_blocks m = blocks_of 66 (length m)

-- where the four bytes of word w of block b lie
abbrev pub word_at : ℕ → ℕ → ℕ
word_at b w = 64 * b + 4 * w

-- which byte has its bit, behind n blocks
abbrev pub mark_at : ℕ → ℕ → ℕ → ℕ
mark_at n b w = 64 * n + 2 * b + w / 8

-- the bit of word w of block b is 1
abbrev pub written : List ℕ → ℕ → ℕ → Bool
written m b w = bit (slice_index m (mark_at (image_blocks m) b w)) (w % 8)

-- blank where the bit is 0
abbrev pub image_word : List ℕ → ℕ → ℕ → Option ℕ
image_word m b w = cond (nat_lt b (image_blocks m) && nat_lt w 16) (cond (written m b w) (Some (four m (word_at b w))) None) None

-- the four bytes and the bit of a word
abbrev pub placed : List ℕ → ℕ → ℕ → ℕ → Bool → List ℕ
placed m b w v on = put_bit (put_four m (word_at b w) v) (mark_at (image_blocks m) b w) (w % 8) on

-- a word made blank has its four bytes set to FF
abbrev pub image_put : List ℕ → ℕ → ℕ → Option ℕ → List ℕ
image_put m b w (Some v) = cond (nat_lt b (image_blocks m) && nat_lt w 16) (placed m b w v true) m
image_put m b w None = cond (nat_lt b (image_blocks m) && nat_lt w 16) (placed m b w 0xFFFF_FFFF false) m

-- kind 1, 66 bytes a block
abbrev pub image : Form
image = record { kind = 1; size = 66; word = image_word; put_word = image_put }
