-- A table of states that is filled block by block.
use Rattle.std.proofs.Common.{◌≡◌, ℕ, ◌+◌, ◌<◌, ◌≤◌, Bool, cond, ltb, List, length, get_or, set, replicate, Some, None, Option, sym, ap, ◌∙◌, inl, inr, arith}
use Rattle.std.proofs.lemmas.Bool.{cases_eq, cases_lt, lt-ltb, le-ltb, cond-true, cond-false}
use Rattle.std.proofs.lemmas.List.{get_or-set_same, get_or-set_other, length-set, length-replicate}
use Rattle.std.proofs.lemmas.Bool.Decides.{nat_tests}
use Rattle.layout.specs.declared.state.BlockState.{BlockState}
use Rattle.records.specs.declared.table.Entry.{Entry}
use Rattle.records.specs.declared.table.Survey.{Survey}
use Rattle.records.specs.Entries.{entry, entry_in, marked_at}
use Rattle.records.proofs.Owners.{all_same}

-- the blocks below b have their states, by f
abbrev pub Stood : (ℕ → BlockState) → ℕ → List Entry → Type 0
Stood f b es = (length es ≡ 256) × ((k : ℕ) → (get_or es k (entry None)).state ≡ cond (ltb k b) (Some (f k)) None)

module _ (f : ℕ → BlockState) where
  pub stood_none : (es : List Entry) → es ≡ replicate 256 (entry None) → Stood f 0 es
  stood_none es e = (
    ap length e ∙ length-replicate 256 (entry None),
    λ k. ap (λ (l : List Entry). (get_or l k (entry None)).state) e ∙ ap (λ (x : Entry). x.state) (all_same (entry None) 256 k) ∙ sym (cond-false (ltb k 0) (Some (f k)) None (le-ltb k 0 (omega arith))),
  )

  stood_set : (b : ℕ) (es : List Entry) (o : Option BlockState) → b < 256 → Stood f b es → o ≡ Some (f b) → Stood f (b + 1) (set es b (entry o))
  stood_set b es o h s e =
      let l : b < length es = omega (arith, s.0) in (
        length-set es b _ ∙ s.0,
        λ k. elim (cases_eq k b) [
          | inl z ↦ rw z (ap (λ (x : Entry). x.state) (get_or-set_same es b (entry o) (entry None) l) ∙ e ∙ sym (cond-true (ltb b (b + 1)) (Some (f b)) None (lt-ltb b (b + 1) (omega arith))))
          | inr z ↦ ap (λ (x : Entry). x.state) (get_or-set_other es b k (entry o) (entry None) z) ∙ s.1 k ∙ ap (λ (t : Bool). cond t (Some (f k)) None) (let y : ltb k b ≡ ltb k (b + 1) = grind (arith, nat_tests) in y)
        ],
      )

  pub stood_more : (b : ℕ) (es fs : List Entry) (o : Option BlockState) → b < 256 → Stood f b es → o ≡ Some (f b) → fs ≡ marked_at es b o → Stood f (b + 1) fs
  stood_more b es fs o h s e g = rw (g ∙ cond-true (ltb b 256) _ _ (lt-ltb b 256 h)) (stood_set b es o h s e)

  pub stood_all : (b count : ℕ) (u : Survey) → b ≡ count → count ≤ 256 → Stood f b u.entries → (k : ℕ) → entry_in u k ≡ cond (ltb k count) (Some (f k)) None
  stood_all b count u e few s k = elim (cases_lt k 256) [
    | inl l ↦ cond-true (ltb k 256) _ _ (lt-ltb k 256 l) ∙ s.1 k ∙ ap (λ (n : ℕ). cond (ltb k n) (Some (f k)) None) e
    | inr l ↦ cond-false (ltb k 256) _ _ (le-ltb k 256 l) ∙ sym (cond-false (ltb k count) _ _ (le-ltb k count (omega arith)))
  ]
