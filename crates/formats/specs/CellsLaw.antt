-- The law of cells: a word that was put is read again, and no other word changes.
use Rattle.std.specs.Prelude.{◌≡◌, ℕ, ◌+◌, ◌*◌, ◌^◌, ◌<◌, ◌≤◌, true, false, cond, ◌&&◌, ◌≢◌, ◌⊎◌, List, length, Some, None, Option, ◌==◌, nat_lt, slice_index, slice_index_or, slice_set, refl}
use Rattle.std.proofs.Common.{ap, ◌∙◌, inl, inr, arith, lit<}
use Rattle.std.proofs.lemmas.Bool.{cases_lt, cases_eq, lt-ltb}
use Rattle.std.proofs.lemmas.Bool.Decides.{nat_tests}
use Rattle.std.proofs.lemmas.List.{get_or-set_same, get_or-set_other, length-set}
use Rattle.flash.specs.State.{Word4, put}
use Rattle.formats.specs.Bytes.{four}
use Rattle.formats.specs.Forms.{Lawful, blocks_of}
use Rattle.formats.specs.Cells.{cells_blocks, cell_at, cells_word, filled, cells_put, cells}
use Rattle.formats.specs.Fours.{four_keeps, four_other, four_same, apart}

blocks_fit : (len : ℕ) → 80 * blocks_of 80 len ≤ len
blocks_fit len = grind (arith, nat_tests)

length_filled : (m : List ℕ) (b w mark v : ℕ) → length (filled m b w mark v) ≡ length m
length_filled m b w mark v = simp length-set

-- a change of a byte leaves a number that does not hold it
mark_keeps : (m : List ℕ) (p v j : ℕ) → (p < j) ⊎ (j + 4 ≤ p) → four (slice_set m p v) j ≡ four m j
mark_keeps m p v j h =
    let n₀ : j ≢ p = omega arith in
    let n₁ : j + 1 ≢ p = omega arith in
    let n₂ : j + 2 ≢ p = omega arith in
    let n₃ : j + 3 ≢ p = omega arith in
    simp get_or-set_other

module _ (m : List ℕ) (b w mark v : ℕ) (hb : b < cells_blocks m) (hw : w < 16) (hv : v < 2 ^ 32) where
  abbrev n : ℕ
  n = cells_blocks m

  abbrev m' : List ℕ
  m' = filled m b w mark v

  fits : 80 * n ≤ length m
  fits = blocks_fit (length m)

  mark_same : slice_index_or m' (cell_at b w) 0 ≡ mark
  mark_same = four_keeps (slice_set m (cell_at b w) mark) (cell_at b w + 1) v (cell_at b w) (inl (omega arith)) ∙ get_or-set_same m (cell_at b w) mark 0 (omega (arith, fits))

  value_same : four m' (cell_at b w + 1) ≡ v
  value_same = four_same (slice_set m (cell_at b w) mark) (cell_at b w + 1) v (omega (arith, fits, length-set m (cell_at b w) mark)) hv

  module _ (c x : ℕ) (hx : x < 16) (ne : b ≡ c → w ≢ x) where
    mark_other : slice_index_or m' (cell_at c x) 0 ≡ slice_index m (cell_at c x)
    mark_other =
        four_keeps (slice_set m (cell_at b w) mark) (cell_at b w + 1) v (cell_at c x) (elim (apart b w c x hw hx ne) [ inl l ↦ inl (omega arith) | inr l ↦ inr (omega arith) ])
        ∙ get_or-set_other m (cell_at b w) (cell_at c x) mark 0 (elim (apart b w c x hw hx ne) [ inl l ↦ (λ e. omega arith) | inr l ↦ (λ e. omega arith) ])

    value_other : four m' (cell_at c x + 1) ≡ four m (cell_at c x + 1)
    value_other =
        four_other (slice_set m (cell_at b w) mark) (cell_at b w + 1) (cell_at c x + 1) v (elim (apart b w c x hw hx ne) [ inl l ↦ inl (omega arith) | inr l ↦ inr (omega arith) ])
        ∙ mark_keeps m (cell_at b w) mark (cell_at c x + 1) (elim (apart b w c x hw hx ne) [ inl l ↦ inr (omega arith) | inr l ↦ inl (omega arith) ])

  filled_reads : (c x : ℕ) → cells_word m' c x ≡ cond (b == c && w == x) (cond (mark == 255) None (Some v)) (cells_word m c x)
  filled_reads c x =
      let l : blocks_of 80 (length m') ≡ n = ap (blocks_of 80) (length_filled m b w mark v) in
      rw l (elim (cases_lt c n) [
        | inl hc ↦ elim (cases_lt x 16) [
          | inl hx ↦ elim (cases_eq b c) [
            | inl p ↦ elim (cases_eq w x) [
              | inl q ↦ let e = mark_same in let f = value_same in grind (arith, nat_tests)
              | inr q ↦ let e = mark_other c x hx (λ _ h. q h) in let f = value_other c x hx (λ _ h. q h) in grind (arith, nat_tests)
            ]
            | inr p ↦ let e = mark_other c x hx (λ h _. p h) in let f = value_other c x hx (λ h _. p h) in grind (arith, nat_tests)
          ]
          | inr hx ↦ grind (arith, nat_tests)
        ]
        | inr hc ↦ grind (arith, nat_tests)
      ])

keeps : (m : List ℕ) (b w : ℕ) (v : Option ℕ) → length (cells_put m b w v) ≡ length m
keeps m b w (Some v) = elim (nat_lt b (cells_blocks m) && nat_lt w 16) as (λ t. length (cond t (filled m b w 0 v) m) ≡ length m) [ true ↦ length_filled m b w 0 v | false ↦ refl ]
keeps m b w None = elim (nat_lt b (cells_blocks m) && nat_lt w 16) as (λ t. length (cond t (filled m b w 255 0xFFFF_FFFF) m) ≡ length m) [ true ↦ length_filled m b w 255 0xFFFF_FFFF | false ↦ refl ]

inside : (m : List ℕ) (b w : ℕ) → b < cells_blocks m → w < 16 → (nat_lt b (cells_blocks m) && nat_lt w 16) ≡ true
inside m b w hb hw = rw (lt-ltb b (cells_blocks m) hb, lt-ltb w 16 hw)

reads : (m : List ℕ) (b w : ℕ) (v : Option ℕ) → b < cells_blocks m → w < 16 → Word4 v → (c x : ℕ) → cells_word (cells_put m b w v) c x ≡ put (cells_word m) b w v c x
reads m b w (Some v) hb hw h4 c x = rw (inside m b w hb hw) (filled_reads m b w 0 v hb hw h4 c x)
reads m b w None hb hw h4 c x = rw (inside m b w hb hw) (filled_reads m b w 255 0xFFFF_FFFF hb hw (lit< tt) c x)

pub cells_lawful : Lawful cells
cells_lawful = record { keeps = keeps; reads = reads; outside = λ m b w e. rw e }
