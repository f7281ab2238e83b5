-- The law of the image: a word that was put is read again, and no other word changes.
use Rattle.std.specs.Prelude.{◌≡◌, ℕ, ◌+◌, ◌*◌, ◌%◌, ◌^◌, ◌<◌, ◌≤◌, Bool, true, false, cond, ◌&&◌, ltb, ◌≢◌, List, length, Some, None, Option, ◌==◌, nat_lt, slice_index, refl}
use Rattle.std.proofs.Common.{ap, ◌∙◌, inl, inr, arith, lit<}
use Rattle.std.proofs.lemmas.Bool.{cases_lt, cases_eq, lt-ltb}
use Rattle.std.proofs.lemmas.Bool.Decides.{nat_tests}
use Rattle.std.proofs.lemmas.List.{get_or-set_other, length-set}
use Rattle.flash.specs.State.{Word4, put}
use Rattle.formats.specs.Bytes.{bit, four, put_four, put_bit}
use Rattle.formats.specs.Forms.{Lawful, blocks_of}
use Rattle.formats.specs.Image.{image_blocks, word_at, mark_at, image_word, placed, image_put, image}
use Rattle.formats.specs.Digits.{bit_put}
use Rattle.formats.specs.Fours.{length_four, four_keeps, four_other, four_same, apart}

blocks_fit : (len : ℕ) → 66 * blocks_of 66 len ≤ len
blocks_fit len = grind (arith, nat_tests)

length_placed : (m : List ℕ) (b w v : ℕ) (on : Bool) → length (placed m b w v on) ≡ length m
length_placed m b w v on = simp length-set

-- only one word has a given bit
same_mark : (n b w c x : ℕ) → w < 16 → x < 16 → (mark_at n c x == mark_at n b w && x % 8 == w % 8) ≡ (b == c && w == x)
same_mark n b w c x hw hx = grind (arith, nat_tests)

-- a change of a bit leaves the four bytes of a word, which lie below the bits
mark_keeps : (m : List ℕ) (p k j : ℕ) (on : Bool) → j + 4 ≤ p → four (put_bit m p k on) j ≡ four m j
mark_keeps m p k j on h =
    let n₀ : j ≢ p = omega arith in
    let n₁ : j + 1 ≢ p = omega arith in
    let n₂ : j + 2 ≢ p = omega arith in
    let n₃ : j + 3 ≢ p = omega arith in
    simp get_or-set_other

module _ (m : List ℕ) (b w v : ℕ) (on : Bool) (hb : b < image_blocks m) (hw : w < 16) (hv : v < 2 ^ 32) where
  abbrev n : ℕ
  n = image_blocks m

  abbrev m' : List ℕ
  m' = placed m b w v on

  fits : 66 * n ≤ length m
  fits = blocks_fit (length m)

  written_after : (c x : ℕ) → c < n → x < 16
      → bit (slice_index m' (mark_at n c x)) (x % 8) ≡ cond (b == c && w == x) on (bit (slice_index m (mark_at n c x)) (x % 8))
  written_after c x hc hx =
      bit_put (put_four m (word_at b w) v) (mark_at n b w) (w % 8) (mark_at n c x) (x % 8) on (omega (arith, fits, length_four m (word_at b w) v)) (omega arith) (omega arith)
      ∙ ap (λ t. cond t on (bit (slice_index (put_four m (word_at b w) v) (mark_at n c x)) (x % 8))) (same_mark n b w c x hw hx)
      ∙ ap (λ z. cond (b == c && w == x) on (bit z (x % 8))) (four_keeps m (word_at b w) v (mark_at n c x) (inr (omega arith)))

  four_after : (c x : ℕ) → c < n → x < 16 → four m' (word_at c x) ≡ cond (b == c && w == x) v (four m (word_at c x))
  four_after c x hc hx =
      mark_keeps (put_four m (word_at b w) v) (mark_at n b w) (w % 8) (word_at c x) on (omega arith)
      ∙ elim (cases_eq b c) [
        | inl p ↦ elim (cases_eq w x) [
          | inl q ↦ let f = fits in grind (arith, nat_tests, four_same)
          | inr q ↦ elsewhere (λ _ e. q e)
        ]
        | inr p ↦ elsewhere (λ e _. p e)
      ]
    where
      elsewhere : (b ≡ c → w ≢ x) → four (put_four m (word_at b w) v) (word_at c x) ≡ cond (b == c && w == x) v (four m (word_at c x))
      elsewhere ne =
          four_other m (word_at b w) (word_at c x) v (elim (apart b w c x hw hx ne) [ inl l ↦ inl (omega arith) | inr l ↦ inr (omega arith) ])
          ∙ grind (arith, nat_tests)

  placed_reads : (c x : ℕ) → image_word m' c x ≡ cond (b == c && w == x) (cond on (Some v) None) (image_word m c x)
  placed_reads c x =
      let l : blocks_of 66 (length m') ≡ n = ap (blocks_of 66) (length_placed m b w v on) in
      rw l (elim (cases_lt c n) [
        | inl hc ↦ elim (cases_lt x 16) [
          | inl hx ↦
              let e = written_after c x hc hx in
              let f = four_after c x hc hx in
              let t : ltb c n ≡ true = lt-ltb c n hc in
              let u : ltb x 16 ≡ true = lt-ltb x 16 hx in
              grind (arith, nat_tests)
          | inr hx ↦ grind (arith, nat_tests)
        ]
        | inr hc ↦ grind (arith, nat_tests)
      ])

keeps : (m : List ℕ) (b w : ℕ) (v : Option ℕ) → length (image_put m b w v) ≡ length m
keeps m b w (Some v) = elim (nat_lt b (image_blocks m) && nat_lt w 16) as (λ t. length (cond t (placed m b w v true) m) ≡ length m) [ true ↦ length_placed m b w v true | false ↦ refl ]
keeps m b w None = elim (nat_lt b (image_blocks m) && nat_lt w 16) as (λ t. length (cond t (placed m b w 0xFFFF_FFFF false) m) ≡ length m) [ true ↦ length_placed m b w 0xFFFF_FFFF false | false ↦ refl ]

inside : (m : List ℕ) (b w : ℕ) → b < image_blocks m → w < 16 → (nat_lt b (image_blocks m) && nat_lt w 16) ≡ true
inside m b w hb hw = rw (lt-ltb b (image_blocks m) hb, lt-ltb w 16 hw)

reads : (m : List ℕ) (b w : ℕ) (v : Option ℕ) → b < image_blocks m → w < 16 → Word4 v → (c x : ℕ) → image_word (image_put m b w v) c x ≡ put (image_word m) b w v c x
reads m b w (Some v) hb hw h4 c x = rw (inside m b w hb hw) (placed_reads m b w v true hb hw h4 c x)
reads m b w None hb hw h4 c x = rw (inside m b w hb hw) (placed_reads m b w 0xFFFF_FFFF false hb hw (lit< tt) c x)

pub image_lawful : Lawful image
image_lawful = record { keeps = keeps; reads = reads; outside = λ m b w e. rw e }
