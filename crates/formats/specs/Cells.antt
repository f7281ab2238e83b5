-- Kind 2, cells: five bytes a word, the first FF for blank and anything else for written, then the four bytes.
--     cells              the form of cells
use Rattle.std.specs.Prelude.{ℕ, ◌+◌, ◌*◌, cond, ◌&&◌, List, length, Some, None, Option, ◌==◌, nat_lt, slice_index, slice_set}
use Rattle.formats.specs.Bytes.{four, put_four}
use Rattle.formats.specs.Forms.{Form, blocks_of}

-- how many blocks a memory of cells has
abbrev pub cells_blocks : List ℕ → ℕ
cells_blocks m = blocks_of 80 (length m)

-- where the five bytes of word w of block b lie
abbrev pub cell_at : ℕ → ℕ → ℕ
cell_at b w = 80 * b + 5 * w

-- blank where the first byte is FF
abbrev pub cells_word : List ℕ → ℕ → ℕ → Option ℕ
cells_word m b w =
    cond (nat_lt b (cells_blocks m) && nat_lt w 16) (cond (slice_index m (cell_at b w) == 255) None (Some (four m (cell_at b w + 1)))) None

-- the five bytes of a word
abbrev pub filled : List ℕ → ℕ → ℕ → ℕ → ℕ → List ℕ
filled m b w mark v = put_four (slice_set m (cell_at b w) mark) (cell_at b w + 1) v

-- a word that is written has 0 first; one made blank has all five bytes set to FF
abbrev pub cells_put : List ℕ → ℕ → ℕ → Option ℕ → List ℕ
cells_put m b w (Some v) = cond (nat_lt b (cells_blocks m) && nat_lt w 16) (filled m b w 0 v) m
cells_put m b w None = cond (nat_lt b (cells_blocks m) && nat_lt w 16) (filled m b w 255 0xFFFF_FFFF) m

-- kind 2, 80 bytes a block
abbrev pub cells : Form
cells = record { kind = 2; size = 80; word = cells_word; put_word = cells_put }
