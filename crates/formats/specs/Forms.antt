-- A form: how the words of a flash lie in the bytes of a memory.
--     blocks_of size len   how many blocks of this size a memory of so many bytes holds
--     Form                 a kind number, the bytes of a block, and where a word is read and put
--     blocks form m        how many blocks a memory holds
--     is_inside form m b w   whether a memory has word w of block b
--     Lawful form          a word that was put is read again, and no other word changes
use Rattle.std.specs.Prelude.{◌≡◌, ℕ, ◌/◌, ◌%◌, ◌<◌, Bool, false, cond, ◌&&◌, List, length, None, Option, ◌==◌, nat_le, nat_lt}
use Rattle.flash.specs.State.{Word4, put}

-- a whole number of blocks, 3 to 256 of them, or none
abbrev pub blocks_of : ℕ → ℕ → ℕ
blocks_of size len = cond (len % size == 0 && (nat_le 3 (len / size) && nat_le (len / size) 256)) (len / size) 0

-- word and put take the memory, a block and a word; put writes the word, or makes it blank
pub record Form : Type 0 where
  pub kind : ℕ
  pub size : ℕ
  pub word : List ℕ → ℕ → ℕ → Option ℕ
  pub put_word : List ℕ → ℕ → ℕ → Option ℕ → List ℕ

-- how many blocks a memory of this form has
abbrev pub blocks : Form → List ℕ → ℕ
blocks form m = blocks_of form.size (length m)

-- one of the 16 words of one of its blocks
abbrev pub is_inside : Form → List ℕ → ℕ → ℕ → Bool
is_inside form m b w = nat_lt b (blocks form m) && nat_lt w 16

-- a memory keeps its length; a word that was put is read again, and every other word as before; what is no word of a block is blank
pub record Lawful (form : Form) : Type 0 where
  pub keeps : (m : List ℕ) (b w : ℕ) (v : Option ℕ) → length (form.put_word m b w v) ≡ length m
  pub reads : (m : List ℕ) (b w : ℕ) (v : Option ℕ) → b < blocks form m → w < 16 → Word4 v
      → (c x : ℕ) → form.word (form.put_word m b w v) c x ≡ put (form.word m) b w v c x
  pub outside : (m : List ℕ) (b w : ℕ) → is_inside form m b w ≡ false → form.word m b w ≡ None
