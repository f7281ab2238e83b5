-- A value that is copied up to following block j, at c.
use Rattle.std.proofs.Common.{◌≡◌, ℕ, zero, suc, ◌+◌, ◌-◌, ◌*◌, ◌<◌, ◌≤◌, min, true, ◌&&◌, ltb, List, [], ◌++◌, length, get_or, take, drop, set, sym, refl, ap, ◌∙◌, subst, inl, inr, add-one, arith}
use lib.Seq.{paste}
use Rattle.std.proofs.lemmas.List.FromFn.{get_or-map-range_with_len, length-map-range_with_len}
use Rattle.std.proofs.lemmas.List.Edits.{paste_more, paste_all, paste-paste, paste_none, length-paste}
use Rattle.std.proofs.lemmas.Slice.{put_mid-paste}
use Rattle.std.proofs.lemmas.List.{append_assoc, append-nil, length-append, length-take, length-drop, nil_from_length}
use borrow.Rule.Slice.PartMut.{put_mid}
use Rattle.std.proofs.lemmas.Bool.{cases_lt}
use Rattle.std.proofs.lemmas.Bool.Decides.{nat_tests}
use Rattle.flash.specs.State.{Words, Memory}
use Rattle.layout.specs.Sizes.{Sizes, size, followers, first_share, share}
use Rattle.layout.specs.Fields.{chain, byte, bytes}
use Rattle.layout.specs.Sound.{follows, leads, sound}
use Rattle.layout.specs.Records.{data_from, data_at}
use Rattle.layout.proofs.Loops.{left_suc, left_none}

pub length_bytes : (m : Words) (k n : ℕ) → length (bytes m k n) ≡ n
unfolding bytes
length_bytes m k n = length-map-range_with_len (byte m) k n

pub bytes_at : (m : Words) (k n i : ℕ) → i < n → get_or (bytes m k n) i 0 ≡ byte m (k + i)
unfolding bytes
bytes_at m k n i h = get_or-map-range_with_len (byte m) k n i (k + i) 0 h refl

pub copy_more : (d : List ℕ) (at : ℕ) (m : Words) (k n i x : ℕ) (o : List ℕ) → i < n → at + n ≤ length d → o ≡ paste d at (bytes m k n) i → x ≡ byte m (k + i)
    → set o (at + i) x ≡ paste d at (bytes m k n) (i + 1)
copy_more d at m k n i x o h l e q =
    rw (e, q ∙ sym (bytes_at m k n i h)) (paste_more d at (bytes m k n) i 0 (omega arith) (omega (arith, length_bytes m k n)))

-- the same of a buffer that is filled from its front to its end
pub front_more : (d : List ℕ) (m : Words) (k i x : ℕ) (o : List ℕ) → i < length d → o ≡ paste d 0 (bytes m k (length d)) i → x ≡ byte m (k + i)
    → set o i x ≡ paste d 0 (bytes m k (length d)) (i + 1)
front_more d m k i x o h e q =
    let z : 0 + i ≡ i = omega arith in
    subst (λ (v : ℕ). set o v x ≡ paste d 0 (bytes m k (length d)) (i + 1)) z (copy_more d 0 m k (length d) i x o h (omega arith) e q)

pub front_whole : (m : Words) (k i : ℕ) (d o : List ℕ) → i ≡ length d → o ≡ paste d 0 (bytes m k (length d)) i → o ≡ bytes m k (length d)
front_whole m k i d o e h =
    h ∙ ap (paste d 0 (bytes m k (length d))) e
    ∙ paste_all d 0 (bytes m k (length d)) (length d) (sym (length_bytes m k (length d)))
    ∙ ap (λ (x : List ℕ). bytes m k (length d) ++ x) (nil_from_length (drop (0 + length d) d) (omega (arith, length-drop (0 + length d) d)))
    ∙ append-nil (bytes m k (length d))

-- what stands in a buffer once its part from a to e is filled with bytes of a block
pub part_filled : (m : Words) (f a e k : ℕ) (o part : List ℕ) → e ≡ a + k → e ≤ length o → part ≡ bytes m f (length (take (e - a) (drop a o))) → put_mid a (e - a) o part ≡ paste o a (bytes m f k) k
part_filled m f a e k o part q l g =
    let z : length (take (e - a) (drop a o)) ≡ k = omega (arith, length-take (e - a) (drop a o), length-drop a o) in
    put_mid-paste a (e - a) o part (bytes m f k) k (g ∙ ap (bytes m f) z) (omega arith) (sym (length_bytes m f k))

-- the same at the front
pub front_filled : (m : Words) (f k : ℕ) (o part : List ℕ) → k ≤ length o → part ≡ bytes m f (length (take k o)) → part ++ drop k o ≡ paste o 0 (bytes m f k) k
front_filled m f k o part l g =
    let z : length (take k o) ≡ k = omega (arith, length-take k o) in
    ap (λ (x : List ℕ). x ++ drop k o) (g ∙ ap (bytes m f) z) ∙ ap (λ (i : ℕ). bytes m f k ++ drop i o) (let e : k ≡ 0 + k = omega arith in e) ∙ sym (paste_all o 0 (bytes m f k) k (sym (length_bytes m f k)))

-- the following blocks below j are copied, from byte 41 on, and c is the next
pub record Filled (count : ℕ) (m : Memory) (s b : ℕ) (d all : List ℕ) (j c : ℕ) (o : List ℕ) : Type 0 where
  pub led : leads count m s b j c (followers s - j) ≡ true
  pub done : List ℕ
  pub rest : done ++ data_from m s j c (followers s - j) ≡ all
  pub long : length done ≡ min (s - 41) (53 * j)
  pub now : o ≡ paste d 41 done (length done)
  pub same : length o ≡ length d

pub filled_none : (count : ℕ) (m : Memory) (s b c : ℕ) (d : List ℕ) → leads count m s b 0 c (followers s) ≡ true → Filled count m s b d (data_from m s 0 c (followers s)) 0 c d
filled_none count m s b c d h =
    let z : followers s - 0 ≡ followers s = omega arith in
    record { led = rw z h; done = []; rest = rw z refl; long = omega arith; now = paste_none d 41 []; same = refl }

module _ (count : ℕ) (m : Memory) (s b : ℕ) (d all : List ℕ) (j c : ℕ) (o : List ℕ) (h : Filled count m s b d all j c o) (l : j < followers s) where
  led_here : (ltb c count && follows s j (m c) && leads count m s b (j + 1) (chain (m c)) (followers s - (j + 1))) ≡ true
  led_here = sym (rw (left_suc j (followers s) l, add-one j) refl) ∙ h.led

  pub filled_below : c < count
  filled_below = let e = led_here in grind (arith, nat_tests)

  pub room_left : 53 * j < s - 41
  unfolding followers
  room_left = omega arith

  pub filled_more : (w : Words) (k c' : ℕ) (o' : List ℕ) → s ≤ length d → w ≡ m c → c' ≡ chain w → k ≡ share s j → o' ≡ paste o (41 + 53 * j) (bytes w 3 k) k
      → Filled count m s b d all (j + 1) c' o'
  unfolding share
  filled_more w k c' o' ld e q f g =
      let r : c' ≡ chain (m c) = q ∙ ap chain e in
      let lj : 53 * j < s - 41 = room_left in
      let lo : length o ≡ length d = h.same in
      record {
        led = rw r (let z = led_here in grind (arith, nat_tests));
        done = h.done ++ bytes w 3 k;
        rest = append_assoc h.done (bytes w 3 k) _ ∙ ap (λ (x : List ℕ). h.done ++ x) (rw (r, e, f) (sym (rw (left_suc j (followers s) l, add-one j) refl))) ∙ h.rest;
        long = omega (arith, length-append h.done (bytes w 3 k), length_bytes w 3 k, h.long);
        now = g
            ∙ ap (λ (x : List ℕ). paste x (41 + 53 * j) (bytes w 3 k) k) h.now
            ∙ ap (λ (i : ℕ). paste (paste d 41 h.done (length h.done)) i (bytes w 3 k) k) (let z : 41 + 53 * j ≡ 41 + length h.done = omega (arith, h.long) in z)
            ∙ paste-paste d 41 h.done (bytes w 3 k) (length h.done) k refl (sym (length_bytes w 3 k)) (omega arith)
            ∙ ap (paste d 41 (h.done ++ bytes w 3 k)) (let z : length h.done + k ≡ length (h.done ++ bytes w 3 k) = omega (arith, length-append h.done (bytes w 3 k), length_bytes w 3 k) in z);
        same = ap length g ∙ length-paste o (41 + 53 * j) (bytes w 3 k) k (omega arith) (omega (arith, length_bytes w 3 k)) ∙ lo;
      }

pub filled_all : (count : ℕ) (m : Memory) (s b : ℕ) (d all : List ℕ) (j c : ℕ) (o : List ℕ) → Filled count m s b d all j c o → followers s ≤ j → o ≡ paste d 41 all (s - 41)
unfolding followers
filled_all count m s b d all j c o h l =
    let z : followers s - j ≡ 0 = left_none j (followers s) l in
    let n : length h.done ≡ s - 41 = omega (arith, h.long) in
    let e : h.done ≡ all = sym (append-nil h.done) ∙ subst (λ (i : ℕ). h.done ++ data_from m s j c i ≡ all) z h.rest in
    h.now ∙ ap (paste d 41 h.done) n ∙ ap (λ (x : List ℕ). paste d 41 x (s - 41)) e

length_data : (m : Memory) (s j c l : ℕ) → l ≡ followers s - j → length (data_from m s j c l) ≡ s - 41 - 53 * j
unfolding followers share
length_data m s j c zero e = omega arith
length_data m s j c (suc l) e =
    length-append (bytes (m c) 3 (share s j)) (data_from m s (suc j) (chain (m c)) l) ∙
    (let a = length_bytes (m c) 3 (share s j) in let b = length_data m s (suc j) (chain (m c)) l (omega arith) in omega arith)

-- the data of a record is as long as the size of its number
pub length_data_at : (m : Memory) (p : Sizes) (n b : ℕ) → length (data_at m p n b) ≡ size p n
unfolding data_at first_share
length_data_at m p n b =
    length-append (bytes (m b) 11 (first_share (size p n))) _
    ∙ (let x = length_bytes (m b) 11 (first_share (size p n)) in let y = length_data m (size p n) 0 (chain (m b)) (followers (size p n)) (omega arith) in omega arith)

two_parts : (d o x y : List ℕ) (s k : ℕ) → s ≤ length d → k ≡ min s 41 → length x ≡ k → length y ≡ s - 41 → o ≡ paste d 0 x k → paste o 41 y (s - 41) ≡ paste d 0 (x ++ y) s
two_parts d o x y s k ld f lx ly g = elim (cases_lt s 41) [
  | inl l ↦ let z : s - 41 ≡ 0 = omega arith in let n : y ≡ [] = nil_from_length y (omega arith) in let q : k ≡ s = omega arith in
      ap (paste o 41 y) z ∙ sym (paste_none o 41 y) ∙ g ∙ ap (paste d 0 x) q ∙ ap (λ (v : List ℕ). paste d 0 v s) (sym (ap (λ (v : List ℕ). x ++ v) n ∙ append-nil x))
  | inr l ↦ let q : 41 ≡ 0 + k = omega arith in let v : k + (s - 41) ≡ s = omega arith in
      ap (λ (i : ℕ). paste o i y (s - 41)) q ∙ ap (λ (v : List ℕ). paste v (0 + k) y (s - 41)) g ∙ paste-paste d 0 x y k (s - 41) (sym lx) (sym ly) (omega arith) ∙ ap (paste d 0 (x ++ y)) v
]

-- the first block's bytes, then those of the following ones
pub value_made : (m : Memory) (p : Sizes) (n b : ℕ) (d o q : List ℕ) (w : Words) (k c : ℕ) → size p n ≤ length d → w ≡ m b → c ≡ chain w → k ≡ first_share (size p n)
    → o ≡ paste d 0 (bytes w 11 k) k → q ≡ paste o 41 (data_from m (size p n) 0 c (followers (size p n))) (size p n - 41) → q ≡ data_at m p n b ++ drop (size p n) d
unfolding data_at first_share
value_made m p n b d o q w k c ld e r f g h =
    let s = size p n in
    let x = bytes w 11 k in
    let y = data_from m (size p n) 0 c (followers (size p n)) in
    let lx : length x ≡ k = length_bytes w 11 k in
    let ly : length y ≡ s - 41 = (let z = length_data m (size p n) 0 c (followers (size p n)) (omega arith) in omega arith) in
    let all : x ++ y ≡ data_at m p n b = (let i : c ≡ chain (m b) = r ∙ ap chain e in rw (i, e, f) refl) in
    h ∙ two_parts d o x y s k ld f lx ly g ∙ paste_all d 0 (x ++ y) s (omega (arith, length-append x y)) ∙ ap (λ (v : List ℕ). v ++ drop (0 + s) d) all ∙ ap (λ (i : ℕ). data_at m p n b ++ drop i d) (let z : 0 + s ≡ s = omega arith in z)

-- the same, where the size is known by another name
pub value_sized : (m : Memory) (p : Sizes) (n b z : ℕ) (d o q : List ℕ) (w : Words) (k c : ℕ) → z ≡ size p n → z ≤ length d → w ≡ m b → c ≡ chain w → k ≡ first_share z
    → o ≡ paste d 0 (bytes w 11 k) k → q ≡ paste o 41 (data_from m z 0 c (followers z)) (z - 41) → q ≡ data_at m p n b ++ drop z d
value_sized m p n b z d o q w k c e ld ew r f g h =
    subst (λ (z : ℕ). z ≤ length d → k ≡ first_share z → q ≡ paste o 41 (data_from m z 0 c (followers z)) (z - 41) → q ≡ data_at m p n b ++ drop z d) (sym e)
    (λ ld f h. value_made m p n b d o q w k c ld ew r f g h) ld f h

-- a sound first block is one of the flash's, and its chain leads back to it
pub sound_inside : (count : ℕ) (m : Memory) (p : Sizes) (n b : ℕ) → sound count m p n b ≡ true → b < count
unfolding sound
sound_inside count m p n b h = grind (arith, nat_tests)

pub sound_led : (count : ℕ) (m : Memory) (p : Sizes) (n b c z : ℕ) (w : Words) → z ≡ size p n → sound count m p n b ≡ true → w ≡ m b → c ≡ chain w → leads count m z b 0 c (followers z) ≡ true
unfolding sound
sound_led count m p n b c z w f h e q = let r : c ≡ chain (m b) = q ∙ ap chain e in rw (r, f) (grind (arith, nat_tests))
