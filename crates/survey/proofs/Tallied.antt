-- The counts of a table of all states are those of the blocks of the flash.
use Rattle.std.proofs.Common.{◌≡◌, ℕ, zero, suc, ◌+◌, ◌-◌, ◌<◌, ◌≤◌, Bool, true, false, cond, ltb, List, [], ◌∷◌, map, length, get_or, Some, None, filter, sym, refl, ap, ◌∙◌, add-zero, add-one, arith}
use Rattle.std.specs.List.{range_with_len}
use Rattle.std.proofs.lemmas.Bool.{lt-ltb, le-ltb, cond-true, cond-false}
use Rattle.std.proofs.lemmas.List.{length-append, map-id}
use Rattle.std.proofs.lemmas.List.FromFn.{filter_of_map_range_with_len_more}
use Rattle.flash.specs.State.{Memory}
use Rattle.layout.specs.declared.state.BlockState.{BlockState}
use Rattle.layout.specs.declared.state.BlockState.TheVariants.{Live, Free, HalfErased, Spent}
use Rattle.layout.specs.Sizes.{Sizes}
use Rattle.layout.specs.States.{state, same_state, counted}
use Rattle.records.specs.declared.table.Survey.{Survey}
use Rattle.records.specs.declared.table.Counts.{Counts}
use Rattle.records.specs.Entries.{entry, entry_in, counted_with, tally}
use Rattle.survey.specs.Entries.{entry_of, counts_of}

-- how many of the first n blocks pass
unfoldable kept : (ℕ → Bool) → ℕ → ℕ
kept q n = length (filter q (range_with_len 0 n))

kept_more : (q : ℕ → Bool) (n : ℕ) → kept q (suc n) ≡ kept q n + cond (q n) 1 0
unfolding kept
kept_more q n =
    ap (λ (l : List ℕ). length (filter q l)) (ap (range_with_len 0) (sym (add-one n)) ∙ sym (map-id (range_with_len 0 (n + 1))))
    ∙ ap length (filter_of_map_range_with_len_more q (λ x. x) 0 n n (omega arith))
    ∙ length-append (filter q (map (λ x. x) (range_with_len 0 n))) _
    ∙ ap (λ (l : List ℕ). length (filter q l) + length (cond (q n) (n ∷ []) [])) (map-id (range_with_len 0 n))
    ∙ ap (λ (i : ℕ). length (filter q (range_with_len 0 n)) + i) (elim (q n) as (λ t. length (cond t (n ∷ []) []) ≡ cond t 1 0) [ true ↦ refl | false ↦ refl ])

add_state : (s : BlockState) (a b c d : ℕ) → counted_with (record { live = a; free = b; half_erased = c; spent = d }) (Some s)
    ≡ record { live = a + cond (same_state s Live) 1 0; free = b + cond (same_state s Free) 1 0; half_erased = c + cond (same_state s HalfErased) 1 0; spent = d + cond (same_state s Spent) 1 0 }
add_state HalfErased a b c d = simp add-zero
add_state Free a b c d = simp add-zero
add_state Live a b c d = simp add-zero
add_state Spent a b c d = simp add-zero

module _ (count : ℕ) (m : Memory) (p : Sizes) where
  abbrev with_state : BlockState → ℕ → ℕ
  with_state s n = kept (λ b. same_state (state count m p b) s) n

  abbrev those : ℕ → Counts
  those n = record { live = with_state Live n; free = with_state Free n; half_erased = with_state HalfErased n; spent = with_state Spent n }

  those_more : (n : ℕ) → counted_with (those n) (Some (state count m p n)) ≡ those (suc n)
  those_more n =
      add_state (state count m p n) _ _ _ _
      ∙ (λ i. record {
        live = sym (kept_more (λ b. same_state (state count m p b) Live) n) i;
        free = sym (kept_more (λ b. same_state (state count m p b) Free) n) i;
        half_erased = sym (kept_more (λ b. same_state (state count m p b) HalfErased) n) i;
        spent = sym (kept_more (λ b. same_state (state count m p b) Spent) n) i;
      })

  module _ (u : Survey) (h : (b : ℕ) → entry_in u b ≡ entry_of count m p b) (few : count ≤ 256) where
    listed : (b : ℕ) → b < 256 → (get_or u.entries b (entry None)).state ≡ entry_of count m p b
    listed b l = sym (cond-true (ltb b 256) _ _ (lt-ltb b 256 l)) ∙ h b

    some_listed : (b : ℕ) → b < count → (get_or u.entries b (entry None)).state ≡ Some (state count m p b)
    some_listed b l = listed b (omega arith) ∙ cond-true (ltb b count) _ _ (lt-ltb b count l)

    none_listed : (b : ℕ) → count ≤ b → b < 256 → (get_or u.entries b (entry None)).state ≡ None
    none_listed b l k = listed b k ∙ cond-false (ltb b count) _ _ (le-ltb b count l)

    -- the blocks of the flash count once each
    up_to : (n : ℕ) → n ≤ count → tally u.entries n ≡ those n
    unfolding kept
    up_to zero l = refl
    up_to (suc n) l =
        ap (λ (x : Counts). counted_with x (get_or u.entries n (entry None)).state) (up_to n (omega arith)) ∙ ap (counted_with (those n)) (some_listed n (omega arith)) ∙ those_more n

    -- and the others nowhere
    beyond : (d n : ℕ) → n ≡ d + count → n ≤ 256 → tally u.entries n ≡ those count
    beyond zero n e l = let z : n ≡ count = omega arith in ap (tally u.entries) z ∙ up_to count (omega arith)
    beyond (suc d) n e l =
        let z : n ≡ suc (d + count) = omega arith in
        ap (tally u.entries) z ∙ ap (counted_with (tally u.entries (d + count))) (none_listed (d + count) (omega arith) (omega arith)) ∙ beyond d (d + count) refl (omega arith)

    pub tally_counted : tally u.entries 256 ≡ counts_of count m p
    unfolding counted kept
    tally_counted = beyond (256 - count) 256 (omega arith) (omega arith)
