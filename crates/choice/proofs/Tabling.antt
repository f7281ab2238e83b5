-- The blocks found by the tables of a look over the flash are those that the layout defines.
use Rattle.std.proofs.Common.{◌≡◌, ℕ, ◌<◌, ◌≤◌, min, Bool, true, ltb, List, [], ◌∷◌, take, Some, filter, Option, sym, refl, ap, ◌∙◌, subst, arith}
use Rattle.std.specs.List.{AllByRecursion}
use Rattle.std.proofs.ByRecursion.{All-weaker, all_kept_by, kept_by_passes}
use Rattle.std.proofs.lemmas.Bool.{lt-ltb, cond-true}
use Rattle.flash.specs.State.{Memory}
use Rattle.layout.specs.declared.state.BlockState.{BlockState}
use Rattle.layout.specs.declared.state.BlockState.TheVariants.{Live, Free, HalfErased, Spent}
use Rattle.layout.specs.Sizes.{Sizes}
use Rattle.layout.specs.Records.{newest, round}
use Rattle.layout.specs.States.{state, same_state, of_state}
use Rattle.records.specs.declared.head.Head.{Head}
use Rattle.records.specs.Heads.{headed}
use Rattle.records.specs.declared.table.Survey.{Survey}
use Rattle.records.specs.Entries.{entry_in}
use Rattle.survey.specs.Entries.{entry_of}
use Rattle.choice.specs.declared.round.Purpose.{Purpose}
use Rattle.choice.specs.declared.round.Purpose.TheVariants.{Writing, Erasing}
use Rattle.choice.specs.Choosing.{free_blocks, useless, first_of, erasable}
use Rattle.choice.specs.Tables.{round_of, round_after, suits, suited, free, found_in}
use Rattle.choice.proofs.Held.{kept_alike}
use Rattle.choice.proofs.Rounds.{round_within, round_is}

free_alike : (s : BlockState) → free s ≡ same_state s Free
free_alike HalfErased = refl
free_alike Free = refl
free_alike Live = refl
free_alike Spent = refl

module _ (count : ℕ) (m : Memory) (p : Sizes) where
  -- the first of the blocks of the round that pass a test
  first_below : (t : ℕ → Bool) (b : ℕ) → first_of (filter t (round count m p)) ≡ Some b → (b < count) × (t b ≡ true)
  first_below t b = go (filter t (round count m p)) (all_kept_by t (λ x. x < count) (round count m p) (round_within count m p)) (kept_by_passes t (round count m p))
    where
      go : (xs : List ℕ) → AllByRecursion (λ x. x < count) xs → AllByRecursion (λ x. t x ≡ true) xs → first_of xs ≡ Some b → (b < count) × (t b ≡ true)
      go [] l q e = absurd (let z : ◌≡◌ {A = ℕ} 0 1 = cc in omega arith)
      go (x ∷ xs) l q e = let z : x ≡ b = cc in (subst (λ (y : ℕ). y < count) z l.0, subst (λ (y : ℕ). t y ≡ true) z q.0)

  -- the block that an erase clears is one of the flash's, and of no use
  pub erasable_below : (b : ℕ) → erasable count m p ≡ Some b → (b < count) × (useless (state count m p b) ≡ true)
  unfolding erasable
  erasable_below b = first_below (λ x. useless (state count m p x)) b

  module _ (u : Survey) (states : (b : ℕ) → entry_in u b ≡ entry_of count m p b) (o : Option Head) (head : o ≡ headed m (newest count m p)) where
    state_in : (b : ℕ) → b < count → entry_in u b ≡ Some (state count m p b)
    state_in b l = states b ∙ cond-true (ltb b count) _ _ (lt-ltb b count l)

    -- a test of the entries and one of the states that say the same keep the same
    kept_tabled : (a : Purpose) (t : BlockState → Bool) → ((s : BlockState) → suits a (Some s) ≡ t s) → filter (suited a u) (round_of (round_after o count)) ≡ filter (λ b. t (state count m p b)) (round count m p)
    kept_tabled a t same =
        ap (filter (suited a u)) (round_is count m p o head)
        ∙ kept_alike (suited a u) (λ b. t (state count m p b)) (round count m p)
        (All-weaker (λ x. x < count) (λ x. suited a u x ≡ t (state count m p x)) (λ x l. ap (suits a) (state_in x l) ∙ same (state count m p x)) (round count m p) (round_within count m p))

    pub free_tabled : filter (suited Writing u) (round_of (round_after o count)) ≡ of_state count m p Free (round count m p)
    free_tabled = kept_tabled Writing (λ s. same_state s Free) free_alike

    -- what a write of k blocks takes
    pub free_blocks_tabled : (k : ℕ) → k ≤ 20 → take (min k 20) (filter (suited Writing u) (round_of (round_after o count))) ≡ free_blocks count m p k
    unfolding free_blocks
    free_blocks_tabled k l = let z : min k 20 ≡ k = omega arith in rw z (ap (take k) free_tabled)

    pub erasable_tabled : found_in Erasing u (round_after o count) ≡ erasable count m p
    unfolding erasable
    erasable_tabled = ap first_of (kept_tabled Erasing useless (λ s. refl))

    pub found_below : (b : ℕ) → found_in Erasing u (round_after o count) ≡ Some b → b < count
    found_below b e = (erasable_below b (sym erasable_tabled ∙ e)).0
