-- The free blocks that a write takes suit the commands of a record.
use Rattle.std.proofs.Common.{◌≡◌, ℕ, zero, suc, ◌+◌, ◌<◌, ◌≤◌, Bool, true, false, ltb, List, length, Some, None, filter, Option, refl, subst, inl, inr, arith}
use Rattle.std.specs.List.{AllByRecursion}
use Rattle.std.proofs.ByRecursion.{All-take, all_kept_by}
use Rattle.std.proofs.lemmas.List.{length-take-le}
use Rattle.std.proofs.lemmas.Bool.{and_parts, and_right, or_parts, le-ltb, cases_eq, cases_lt, not-false, false≢true}
use Rattle.flash.specs.State.{State, Shaped, Memory}
use Rattle.layout.specs.declared.state.BlockState.TheVariants.{Free}
use Rattle.layout.specs.Sizes.{Sizes}
use Rattle.layout.specs.Fields.{written, blank, all_from}
use Rattle.layout.specs.Records.{round}
use Rattle.layout.specs.States.{holds, is_half_erased, clean, in_use, stated, state, same_state, counted}
use Rattle.writing.specs.Law.{Bare, Distinct}
use Rattle.choice.specs.Choosing.{free_blocks}
use Rattle.choice.proofs.Held.{kept_held, kept_distinct, take_held, take_distinct}
use Rattle.choice.proofs.Rounds.{round_within, round_distinct, round_length}

free_parts : (h c u : Bool) → same_state (stated h c u) Free ≡ true → (h ≡ false) × (c ≡ true)
free_parts true c u e = absurd (false≢true e)
free_parts false true u e = (refl, refl)
free_parts false false true e = absurd (false≢true e)
free_parts false false false e = absurd (false≢true e)

-- a test that l numbers from k on pass is passed by each of them
from_at : (t : ℕ → Bool) (k l : ℕ) → all_from t k l ≡ true → (w : ℕ) → k ≤ w → w < k + l → t w ≡ true
from_at t k zero h w a b = absurd (omega arith)
from_at t k (suc l) h w a b =
    let q = and_parts (t k) (all_from t (suc k) l) h in
    elim (cases_eq k w) [ inl e ↦ subst (λ (x : ℕ). t x ≡ true) e q.0 | inr e ↦ from_at t (suc k) l q.1 w (omega arith) (omega arith) ]

blank_is : (v : Option ℕ) → blank v ≡ true → v ≡ None
blank_is None h = refl
blank_is (Some x) h = absurd (false≢true h)

module _ (s : State) (shape : Shaped s) (p : Sizes) where
  -- a free block's words are blank but for erase end
  pub free_bare : (b : ℕ) → same_state (state s.count s.word p b) Free ≡ true → Bare (s.word b)
  unfolding state clean
  free_bare b h =
      let q = free_parts (is_half_erased (s.word b)) (clean (s.word b)) (in_use s.count s.word p b) h in (
        λ w ne. elim (cases_lt w 15) [
          | inl l ↦ blank_is (s.word b w) (from_at (λ v. blank (s.word b v)) 0 15 q.1 w (omega arith) (omega arith))
          | inr l ↦ shape.outside b w (and_right (ltb b s.count) (ltb w 16) (le-ltb w 16 (omega arith)))
        ],
        not-false (written (s.word b 15)) (or_parts (written (s.word b 14)) (blank (s.word b 15)) q.0).1,
      )

module _ (count : ℕ) (m : Memory) (p : Sizes) (k : ℕ) where
  -- those of the round that are free
  abbrev is_free : ℕ → Bool
  is_free b = same_state (state count m p b) Free

  pub free_blocks_below : AllByRecursion (λ x. x < count) (free_blocks count m p k)
  unfolding free_blocks
  free_blocks_below =
      All-take (λ x. x < count) k (filter is_free (round count m p)) (all_kept_by is_free (λ x. x < count) (round count m p) (round_within count m p))

  pub free_blocks_distinct : Distinct (free_blocks count m p k)
  unfolding free_blocks
  free_blocks_distinct = take_distinct k (filter is_free (round count m p)) (kept_distinct is_free (round count m p) (round_distinct count m p))

  pub free_blocks_free : (x : ℕ) → holds (free_blocks count m p k) x ≡ true → same_state (state count m p x) Free ≡ true
  unfolding free_blocks
  free_blocks_free x h = (kept_held is_free (round count m p) x (take_held k (filter is_free (round count m p)) x h)).1

  pub free_blocks_length : k ≤ counted count m p Free → length (free_blocks count m p k) ≡ k
  unfolding free_blocks counted
  free_blocks_length l = length-take-le k (filter is_free (round count m p)) (omega (arith, round_length count m p is_free))

-- what the commands of a record ask of the blocks bs
pub record FreeBlocks (s : State) (bs : List ℕ) : Type 0 where
  pub inside : AllByRecursion (λ x. x < s.count) bs
  pub apart : Distinct bs
  pub free : (x : ℕ) → holds bs x ≡ true → Bare (s.word x)

pub free_blocks_suit : (s : State) (p : Sizes) (k : ℕ) → Shaped s → FreeBlocks s (free_blocks s.count s.word p k)
free_blocks_suit s p k shape = record {
  inside = free_blocks_below s.count s.word p k;
  apart = free_blocks_distinct s.count s.word p k;
  free = λ x h. free_bare s shape p x (free_blocks_free s.count s.word p k x h);
}
