-- The current record of a number is its sound first block of highest serial, ties to the lower block.
use Rattle.std.proofs.Common.{◌≡◌, ℕ, zero, suc, ◌<◌, ◌≤◌, Bool, true, false, cond, ltb, ◌⊎◌, Some, None, Option, sym, refl, ◌∙◌, subst, inl, inr, arith}
use Rattle.std.proofs.lemmas.Bool.{cases_lt, cases_Bool, ltb-true, ltb-false, true≢false}
use Rattle.std.proofs.lemmas.Bool.Decides.{nat_tests}
use Rattle.flash.specs.State.{Memory}
use Rattle.layout.specs.Sizes.{Sizes}
use Rattle.layout.specs.Fields.{serial}
use Rattle.layout.specs.Sound.{sound}
use Rattle.layout.specs.Records.{better, best, current, Current}

-- block c is no better than block a
abbrev Behind : Memory → ℕ → ℕ → Type 0
Behind m a c = (serial (m c) < serial (m a)) ⊎ ((serial (m c) ≡ serial (m a)) × (a ≤ c))

-- the best of the blocks below b that pass a test
abbrev IsBest : (ℕ → Bool) → Memory → ℕ → Option ℕ → Type 0
IsBest t m b None = (c : ℕ) → c < b → t c ≡ false
IsBest t m b (Some a) = (a < b) × (t a ≡ true) × ((c : ℕ) → c < b → t c ≡ true → Behind m a c)

module _ (t : ℕ → Bool) (m : Memory) (b : ℕ) where
  -- a block below b + 1 is below b, or b
  last : (P : ℕ → Type 0) (c : ℕ) → c < suc b → (c < b → P c) → P b → P c
  last P c h below here = elim (cases_lt c b) [ inl l ↦ below l | inr l ↦ let e : b ≡ c = omega arith in subst P e here ]

  passed : (o : Option ℕ) → t b ≡ false → IsBest t m b o → IsBest t m (suc b) o
  passed None e h = λ c l. last (λ c. t c ≡ false) c l (h c) e
  passed (Some a) e h =
      (omega arith, h.1, λ c l. last (λ c. t c ≡ true → Behind m a c) c l (h.2 c) (λ q. absurd (true≢false (sym q ∙ e))))

  first : t b ≡ true → IsBest t m b None → IsBest t m (suc b) (Some b)
  first e h = (omega arith, e, λ c l. last (λ c. t c ≡ true → Behind m b c) c l (λ k q. absurd (true≢false (sym q ∙ h c k))) (λ _. inr (refl, omega arith)))

  another : (a : ℕ) → t b ≡ true → IsBest t m b (Some a) → IsBest t m (suc b) (cond (ltb (serial (m a)) (serial (m b))) (Some b) (Some a))
  another a e h = elim (cases_Bool (ltb (serial (m a)) (serial (m b)))) [
    | inl v ↦ rw v (
      omega arith,
      e,
      λ c l. last (λ c. t c ≡ true → Behind m b c) c l
          (λ k q. let lt = ltb-true _ _ v in elim (h.2 c k q) [ inl u ↦ inl (omega arith) | inr u ↦ inl (omega arith) ]) (λ _. inr (refl, omega arith)),
    )
    | inr v ↦ rw v (
      omega arith,
      h.1,
      λ c l. last (λ c. t c ≡ true → Behind m a c) c l (h.2 c)
          (λ _. let le = ltb-false _ _ v in elim (cases_lt (serial (m b)) (serial (m a))) [ inl u ↦ inl u | inr u ↦ inr (omega arith, omega arith) ]),
    )
  ]

  one_more : (o : Option ℕ) (v : Bool) → t b ≡ v → IsBest t m b o → IsBest t m (suc b) (better m o b v)
  one_more o false e h = passed o e h
  one_more None true e h = first e h
  one_more (Some a) true e h = another a e h

best_is : (t : ℕ → Bool) (m : Memory) (b : ℕ) → IsBest t m b (best t m b)
best_is t m zero = λ c h. absurd (omega arith)
best_is t m (suc b) = one_more t m b (best t m b) (t b) refl (best_is t m b)

beyond : (count : ℕ) (m : Memory) (p : Sizes) (n b : ℕ) → count ≤ b → sound count m p n b ≡ false
unfolding sound
beyond count m p n b h = grind (arith, nat_tests)

pub current_is : (count : ℕ) (m : Memory) (p : Sizes) (n : ℕ) → Current count m p n (current count m p n)
unfolding current
current_is count m p n = go (best (sound count m p n) m count) (best_is (sound count m p n) m count)
  where
    go : (o : Option ℕ) → IsBest (sound count m p n) m count o → Current count m p n o
    go None h = λ b. elim (cases_lt b count) [ inl l ↦ h b l | inr l ↦ beyond count m p n b l ]
    go (Some a) h = (h.1, λ c q. elim (cases_lt c count) [ inl l ↦ h.2 c l q | inr l ↦ absurd (true≢false (sym q ∙ beyond count m p n c l)) ])
