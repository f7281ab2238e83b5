-- Bytes put into words are read back.
use Rattle.std.proofs.Common.{◌≡◌, ℕ, zero, suc, ◌+◌, ◌-◌, ◌*◌, ◌/◌, ◌%◌, ◌<◌, ◌≤◌, min, ltb, leb, List, [], ◌∷◌, ◌++◌, map, length, get_or, take, drop, Some, Option, refl, ap, ◌∙◌, arith, length-drop, length-take}
use lib.Bits.{bit_xor, xor_lt}
use Rattle.std.specs.List.{range_with_len, AllByRecursion}
use Rattle.std.proofs.ByRecursion.{All-take, All-drop, All-append}
use Rattle.std.proofs.lemmas.Bool.{cond_both, ltb-true}
use Rattle.flash.specs.State.{Words}
use Rattle.layout.specs.Sizes.{Sizes, size, first_share, share, head_words, data_words}
use Rattle.layout.specs.Fields.{low, held, byte, kind_of, chain, number, serial, code, bytes}
use Rattle.layout.specs.Code.{crc_bit, crc_bits, crc_byte, crc_from, crc, low_bytes, code_of}
use Rattle.layout.specs.declared.block_type.BlockType.{BlockType}
use Rattle.layout.specs.declared.block_type.BlockType.TheVariants.{Short, Long}
use Rattle.layout.specs.Sound.{type_number, first_type}
use Rattle.writing.specs.Writing.{word_of, first_bytes, first_bytes_by_size, follow_bytes}

abbrev pub Small : List ℕ → Type 0
Small l = AllByRecursion (λ x. x < 256) l

pub small_at : (l : List ℕ) → Small l → (k : ℕ) → get_or l k 255 < 256
small_at [] h k = omega arith
small_at (x ∷ xs) h zero = h.0
small_at (x ∷ xs) h (suc k) = small_at xs h.1 k

word_low : (a b c d : ℕ) → a < 256 → b < 256 → c < 256 → d < 256
    → (low (a + 256 * b + 65536 * c + 16777216 * d) 0 ≡ a) × (low (a + 256 * b + 65536 * c + 16777216 * d) 1 ≡ b)
    × (low (a + 256 * b + 65536 * c + 16777216 * d) 2 ≡ c) × (low (a + 256 * b + 65536 * c + 16777216 * d) 3 ≡ d)
unfolding low
word_low a b c d ha hb hc hd = (omega arith, omega arith, omega arith, omega arith)

pub word_byte : (l : List ℕ) → Small l → (w r : ℕ) → r < 4 → low (word_of l w) r ≡ get_or l (4 * w + r) 255
unfolding word_of
word_byte l s w zero h = (word_low _ _ _ _ (small_at l s (4 * w)) (small_at l s (4 * w + 1)) (small_at l s (4 * w + 2)) (small_at l s (4 * w + 3))).0
    ∙ ap (λ (k : ℕ). get_or l k 255) (omega arith)
word_byte l s w (suc zero) h = (word_low _ _ _ _ (small_at l s (4 * w)) (small_at l s (4 * w + 1)) (small_at l s (4 * w + 2)) (small_at l s (4 * w + 3))).1
word_byte l s w (suc (suc zero)) h = (word_low _ _ _ _ (small_at l s (4 * w)) (small_at l s (4 * w + 1)) (small_at l s (4 * w + 2)) (small_at l s (4 * w + 3))).2
word_byte l s w (suc (suc (suc zero))) h = (word_low _ _ _ _ (small_at l s (4 * w)) (small_at l s (4 * w + 1)) (small_at l s (4 * w + 2)) (small_at l s (4 * w + 3))).3
word_byte l s w (suc (suc (suc (suc r)))) h = absurd (omega arith)

pub byte_read : (m : Words) (l : List ℕ) (k : ℕ) → Small l → m (k / 4) ≡ Some (word_of l (k / 4)) → byte m k ≡ get_or l k 255
unfolding byte
byte_read m l k s e =
    ap (λ (v : Option ℕ). low (held v) (k % 4)) e ∙ word_byte l s (k / 4) (k % 4) (omega arith) ∙ ap (λ (i : ℕ). get_or l i 255) (omega arith)

-- l bytes from k on, read as the list xs
pub bytes_read : (f : ℕ → ℕ) (k l : ℕ) (xs : List ℕ) → length xs ≡ l → ((i : ℕ) → i < l → f (k + i) ≡ get_or xs i 255) → map f (range_with_len k l) ≡ xs
bytes_read f k zero [] e h = refl
bytes_read f k zero (x ∷ xs) e h = absurd (omega arith)
bytes_read f k (suc l) [] e h = absurd (omega arith)
bytes_read f k (suc l) (x ∷ xs) e h =
    let a : f k ≡ x = ap f (omega arith) ∙ h 0 (omega arith) in
    let b : map f (range_with_len (k + 1) l) ≡ xs = bytes_read f (k + 1) l xs (omega arith) (λ i q. ap f (omega arith) ∙ h (suc i) (omega arith)) in
    rw (a, b)

-- the code fits two bytes
crc_bit_lt : (r : ℕ) → r < 65536 → crc_bit r < 65536
unfolding crc_bit
crc_bit_lt r h = cond_both (ltb r 32768) (r * 2) (bit_xor (r * 2 % 65536) 4129) (λ x. x < 65536)
    (λ e. omega (arith, ltb-true r 32768 e)) (λ e. xor_lt 16 (r * 2 % 65536) 4129 (omega arith) (omega arith))

crc_bits_lt : (k r : ℕ) → r < 65536 → crc_bits k r < 65536
unfolding crc_bits
crc_bits_lt zero r h = h
crc_bits_lt (suc k) r h = crc_bits_lt k (crc_bit r) (crc_bit_lt r h)

crc_from_lt : (l : List ℕ) (r : ℕ) → Small l → r < 65536 → crc_from r l < 65536
unfolding crc_from crc_byte
crc_from_lt [] r s h = h
crc_from_lt (x ∷ xs) r s h = let q = s.0 in
    crc_from_lt xs (crc_byte r x) s.1 (crc_bits_lt 8 (bit_xor r (x * 256)) (xor_lt 16 r (x * 256) h (omega arith)))

pub low_small : (k x : ℕ) → Small (low_bytes k x)
low_small zero x = tt
low_small (suc k) x = (omega arith, low_small k (x / 256))

pub code_lt : (n s : ℕ) → code_of n s < 65536
unfolding code_of crc
code_lt n s = crc_from_lt (low_bytes 2 n ++ low_bytes 4 s) 65535 (All-append (λ x. x < 256) (low_bytes 2 n) (low_bytes 4 s) (low_small 2 n) (low_small 4 s)) (omega arith)

pub first_small : (p : Sizes) (n s next : ℕ) (d : List ℕ) → Small d → Small (first_bytes p n s next d)
unfolding first_bytes_by_size
first_small p n s next d h = (
  cond_both (leb (size p n) 41) Short Long (λ (t : BlockType). type_number t < 256) (λ e. omega arith) (λ e. omega arith),
  All-append (λ x. x < 256) (low_bytes 2 next ++ low_bytes 2 n ++ low_bytes 4 s ++ low_bytes 2 (code_of n s)) (take (first_share (size p n)) d)
      (All-append (λ x. x < 256) (low_bytes 2 next ++ low_bytes 2 n ++ low_bytes 4 s) (low_bytes 2 (code_of n s))
      (All-append (λ x. x < 256) (low_bytes 2 next ++ low_bytes 2 n) (low_bytes 4 s)
      (All-append (λ x. x < 256) (low_bytes 2 next) (low_bytes 2 n) (low_small 2 next) (low_small 2 n)) (low_small 4 s))
      (low_small 2 (code_of n s)))
      (All-take (λ x. x < 256) (first_share (size p n)) d h),
)

pub follow_small : (s j next : ℕ) (d : List ℕ) → Small d → Small (follow_bytes s j next d)
unfolding follow_bytes
follow_small s j next d h = (
  omega arith,
  All-append (λ x. x < 256) (low_bytes 2 next) (take (share s j) (drop (41 + 53 * j) d)) (low_small 2 next)
      (All-take (λ x. x < 256) (share s j) (drop (41 + 53 * j) d) (All-drop (λ x. x < 256) (41 + 53 * j) d h)),
)

-- the fields of a first block whose first words are in place
module _ (m : Words) (p : Sizes) (n s next : ℕ) (d : List ℕ) (h : Small d) where
  first_byte : (k : ℕ) → m (k / 4) ≡ Some (word_of (first_bytes p n s next d) (k / 4)) → byte m k ≡ get_or (first_bytes p n s next d) k 255
  first_byte k e = byte_read m (first_bytes p n s next d) k (first_small p n s next d h) e

  pub first_kind : m 0 ≡ Some (word_of (first_bytes p n s next d) 0) → kind_of m ≡ type_number (first_type (size p n))
  unfolding kind_of first_bytes_by_size
  first_kind e = first_byte 0 e

  pub first_chain : next < 65536 → m 0 ≡ Some (word_of (first_bytes p n s next d) 0) → chain m ≡ next
  unfolding chain first_bytes_by_size
  first_chain l e =
      let a : byte m 1 ≡ next % 256 = first_byte 1 e in
      let b : byte m 2 ≡ next / 256 % 256 = first_byte 2 e in
      rw (a, b) (omega arith)

  pub first_number : n < 65536 → m 0 ≡ Some (word_of (first_bytes p n s next d) 0) → m 1 ≡ Some (word_of (first_bytes p n s next d) 1) → number m ≡ n
  unfolding number first_bytes_by_size
  first_number l e f =
      let a : byte m 3 ≡ n % 256 = first_byte 3 e in
      let b : byte m 4 ≡ n / 256 % 256 = first_byte 4 f in
      rw (a, b) (omega arith)

  pub first_serial : s < 4294967296 → m 1 ≡ Some (word_of (first_bytes p n s next d) 1) → m 2 ≡ Some (word_of (first_bytes p n s next d) 2) → serial m ≡ s
  unfolding serial first_bytes_by_size
  first_serial l e f =
      let a0 : byte m 5 ≡ s % 256 = first_byte 5 e in
      let a1 : byte m 6 ≡ s / 256 % 256 = first_byte 6 e in
      let a2 : byte m 7 ≡ s / 256 / 256 % 256 = first_byte 7 e in
      let a3 : byte m 8 ≡ s / 256 / 256 / 256 % 256 = first_byte 8 f in
      rw (a0, a1, a2, a3) (omega arith)

  pub first_code : m 2 ≡ Some (word_of (first_bytes p n s next d) 2) → code m ≡ code_of n s
  unfolding code first_bytes_by_size
  first_code e =
      let l : code_of n s < 65536 = code_lt n s in
      let a0 : byte m 9 ≡ code_of n s % 256 = first_byte 9 e in
      let a1 : byte m 10 ≡ code_of n s / 256 % 256 = first_byte 10 e in
      rw (a0, a1) (omega arith)

  pub first_data : size p n ≤ length d → ((w : ℕ) → w < head_words (size p n) → m w ≡ Some (word_of (first_bytes p n s next d) w))
      → bytes m 11 (first_share (size p n)) ≡ take (first_share (size p n)) d
  unfolding bytes head_words first_share first_bytes_by_size
  first_data l e =
      bytes_read (byte m) 11 (first_share (size p n)) (take (first_share (size p n)) d)
      (length-take (min (size p n) 41) d ∙ omega arith)
      (λ i q. first_byte (11 + i) (e ((11 + i) / 4) (omega arith)) ∙ at i)
    where
      at : (i : ℕ) → get_or (first_bytes p n s next d) (11 + i) 255 ≡ get_or (take (min (size p n) 41) d) i 255
      at i = let e : 11 + i ≡ suc (suc (suc (suc (suc (suc (suc (suc (suc (suc (suc (i))))))))))) = omega arith in ap (λ (k : ℕ). get_or (first_bytes p n s next d) k 255) e

module _ (m : Words) (s j next : ℕ) (d : List ℕ) (h : Small d) where
  follow_byte : (k : ℕ) → m (k / 4) ≡ Some (word_of (follow_bytes s j next d) (k / 4)) → byte m k ≡ get_or (follow_bytes s j next d) k 255
  follow_byte k e = byte_read m (follow_bytes s j next d) k (follow_small s j next d h) e

  pub follow_kind : m 0 ≡ Some (word_of (follow_bytes s j next d) 0) → kind_of m ≡ 3
  unfolding kind_of follow_bytes
  follow_kind e = follow_byte 0 e

  pub follow_chain : next < 65536 → m 0 ≡ Some (word_of (follow_bytes s j next d) 0) → chain m ≡ next
  unfolding chain follow_bytes
  follow_chain l e =
      let a : byte m 1 ≡ next % 256 = follow_byte 1 e in
      let b : byte m 2 ≡ next / 256 % 256 = follow_byte 2 e in
      rw (a, b) (omega arith)

  pub follow_data : s ≤ length d → ((w : ℕ) → w < data_words s j → m w ≡ Some (word_of (follow_bytes s j next d) w))
      → bytes m 3 (share s j) ≡ take (share s j) (drop (41 + 53 * j) d)
  unfolding bytes data_words share follow_bytes
  follow_data l e =
      bytes_read (byte m) 3 (share s j) (take (share s j) (drop (41 + 53 * j) d))
      (length-take (min (s - 41 - 53 * j) 53) (drop (41 + 53 * j) d) ∙ ap (λ (k : ℕ). min (min (s - 41 - 53 * j) 53) k) (length-drop (41 + 53 * j) d) ∙ omega arith)
      (λ i q. follow_byte (3 + i) (e ((3 + i) / 4) (omega arith)) ∙ at i)
    where
      at : (i : ℕ) → get_or (follow_bytes s j next d) (3 + i) 255 ≡ get_or (take (min (s - 41 - 53 * j) 53) (drop (41 + 53 * j) d)) i 255
      at i = let e : 3 + i ≡ suc (suc (suc (i))) = omega arith in ap (λ (k : ℕ). get_or (follow_bytes s j next d) k 255) e
