-- A block that is marked as spent is not free, and the others are as they were.
use Rattle.std.proofs.Common.{◌≡◌, ℕ, ◌<◌, ◌≤◌, false, cond, ltb, List, length, get_or, set, Some, None, ap, ◌∙◌, inl, inr}
use Rattle.std.proofs.lemmas.List.{set_past, get_or_past, get_or-set_same, get_or-set_other}
use Rattle.std.proofs.lemmas.Bool.{cases_lt, lt-ltb, le-ltb, cond-true, cond-false}
use Rattle.layout.specs.declared.state.BlockState.TheVariants.{Spent}
use Rattle.records.specs.declared.table.Entry.{Entry}
use Rattle.records.specs.declared.table.Survey.{Survey}
use Rattle.records.specs.Entries.{entry, spent_at}
use Rattle.choice.specs.declared.round.Purpose.TheVariants.{Writing}
use Rattle.choice.specs.Tables.{suits, suited}

module _ (u v : Survey) (b : ℕ) (g : v.entries ≡ spent_at u.entries b) where
  inside : (c : ℕ) → c < 256 → suited Writing v c ≡ suits Writing (get_or v.entries c (entry None)).state
  inside c l = ap (suits Writing) (cond-true (ltb c 256) _ _ (lt-ltb c 256 l))

  outside : (w : Survey) (c : ℕ) → 256 ≤ c → suited Writing w c ≡ false
  outside w c l = ap (suits Writing) (cond-false (ltb c 256) (get_or w.entries c (entry None)).state None (le-ltb c 256 l))

  marked : b < 256 → v.entries ≡ set u.entries b (entry (Some Spent))
  marked l = g ∙ cond-true (ltb b 256) _ _ (lt-ltb b 256 l)

  now_spent : b < 256 → suits Writing (get_or v.entries b (entry None)).state ≡ false
  now_spent l = ap (λ (es : List Entry). suits Writing (get_or es b (entry None)).state) (marked l) ∙ elim (cases_lt b (length u.entries)) [
    | inl i ↦ ap (λ (x : Entry). suits Writing x.state) (get_or-set_same u.entries b (entry (Some Spent)) (entry None) i)
    | inr i ↦ ap (λ (es : List Entry). suits Writing (get_or es b (entry None)).state) (set_past u.entries b (entry (Some Spent)) i) ∙ ap (λ (x : Entry). suits Writing x.state) (get_or_past u.entries b (entry None) i)
  ]

  pub spent_not_free : suited Writing v b ≡ false
  spent_not_free = elim (cases_lt b 256) [ inl l ↦ inside b l ∙ now_spent l | inr l ↦ outside v b l ]

  kept_entry : (c : ℕ) → (c ≡ b → ⊥) → get_or v.entries c (entry None) ≡ get_or u.entries c (entry None)
  kept_entry c ne = elim (cases_lt b 256) [
    | inl l ↦ ap (λ (es : List Entry). get_or es c (entry None)) (marked l) ∙ get_or-set_other u.entries b c (entry (Some Spent)) (entry None) ne
    | inr l ↦ ap (λ (es : List Entry). get_or es c (entry None)) (g ∙ cond-false (ltb b 256) _ _ (le-ltb b 256 l))
  ]

  pub others_as_before : (c : ℕ) → (c ≡ b → ⊥) → suited Writing v c ≡ suited Writing u c
  others_as_before c ne = ap (λ (x : Entry). suits Writing (cond (ltb c 256) x.state None)) (kept_entry c ne)
