-- The table of groups one block on; and its groups are those of the blocks.
use Rattle.std.proofs.Common.{◌≡◌, ℕ, zero, suc, ◌+◌, ◌<◌, ◌≤◌, Bool, false, ltb, List, get_or, Some, None, Option, sym, refl, ap, ◌∙◌, subst, inl, inr, arith}
use Rattle.std.specs.List.{range_with_len, AllByRecursion}
use Rattle.std.proofs.ByRecursion.{all_kept_by, All-weaker}
use Rattle.std.proofs.lemmas.Bool.{cases_eq, cases_lt, lt-ltb, le-ltb, cond-true, cond-false}
use Rattle.flash.specs.State.{Memory}
use Rattle.layout.specs.declared.state.BlockState.{BlockState}
use Rattle.layout.specs.Sizes.{Sizes, numbers}
use Rattle.layout.specs.Records.{current}
use Rattle.layout.specs.States.{some_below, state}
use Rattle.records.specs.declared.head.Heads.{Heads}
use Rattle.records.specs.Heads.{headed, head_in}
use Rattle.records.specs.Tables.{Tabled}
use Rattle.survey.specs.declared.overview.Overview.{Overview}
use Rattle.records.specs.Entries.{entry_in}
use Rattle.survey.specs.Entries.{entry_of}
use Rattle.std.specs.Array.{IsFromFnResultFrom}
use Rattle.std.specs.Fn.{Called}
use denote.Param.Members.{Mut}
use Rattle.choice.specs.declared.group.Group.{Group}
use Rattle.choice.specs.declared.group.Groups.{Groups}
use Rattle.choice.specs.Choosing.{group_of, begins, is_first, same_group, in_group}
use Rattle.choice.specs.Tables.{begins_at, first_in, group_in, grouped, Grouped}
use Rattle.choice.proofs.Held.{counting_within}

-- the group that block k is to have
abbrev group_to_be : Overview → Sizes → ℕ → Option Group
group_to_be o p k = grouped (entry_in o.survey k) (first_in o.heads (numbers p) k)

-- what each call of a closure gives, whatever it was called with before, stands in the array that the calls make
pub made : {F B : Type 0} (g : Mut F (ℕ × Unit {0}) B) (h : ℕ → B) (f : F) (n : ℕ) → ((x : ℕ) (y : B) (q : F) → x < n → Called g f (x, tt) y q → (q ≡ f) × (y ≡ h x))
    → (ys : List B) (i k : ℕ) → i + k ≡ n → IsFromFnResultFrom g f ys i k → (x : ℕ) (d : B) → i ≤ x → x < n → get_or ys x d ≡ h x
made g h f n call ys i zero e r x d a b = absurd (omega arith)
made g h f n call ys i (suc k) e (q, y, is, called, rest) x d a b =
    let gave = call i y q (omega arith) called in
    elim (cases_eq x i) [
      | inl z ↦ rw z (is.1 d ∙ gave.1)
      | inr z ↦ made g h f n call ys (i + 1) k (omega arith) (subst (λ p. IsFromFnResultFrom g p ys (i + 1) k) gave.0 rest) x d (omega arith) b
    ]

pub grouped_all : (o : Overview) (p : Sizes) (t : Groups) → ((k : ℕ) → k < 256 → get_or t.entries k None ≡ group_to_be o p k) → Grouped o p t
grouped_all o p t h b = elim (cases_lt b 256) [
  | inl l ↦ cond-true (ltb b 256) _ _ (lt-ltb b 256 l) ∙ h b l
  | inr l ↦
      let f : ltb b 256 ≡ false = le-ltb b 256 l in
      cond-false (ltb b 256) _ _ f ∙ sym (ap (λ (s : Option BlockState). grouped s (first_in o.heads (numbers p) b)) (cond-false (ltb b 256) _ _ f))
]

begins_alike : (m : Memory) (o : Option ℕ) (b : ℕ) → begins_at (headed m o) b ≡ begins o b
begins_alike m None b = refl
begins_alike m (Some c) b = refl

some_alike : (q t : ℕ → Bool) → ((n : ℕ) → q n ≡ t n) → (n : ℕ) → some_below q n ≡ some_below t n
some_alike q t h zero = refl
some_alike q t h (suc n) = rw (h n, some_alike q t h n) refl

module _ (count : ℕ) (m : Memory) (p : Sizes) where
  first_tabled : (t : Heads) → Tabled count m p t → (b : ℕ) → first_in t (numbers p) b ≡ is_first count m p b
  unfolding is_first
  first_tabled t h b = some_alike (λ n. begins_at (head_in t n) b) (λ n. begins (current count m p n) b) (λ n. ap (λ o. begins_at o b) (h n) ∙ begins_alike m (current count m p n) b) (numbers p)

  -- the groups of what a look over the flash found are those of its blocks
  module _ (o : Overview) (t : Groups) (g : Grouped o p t) (heads : Tabled count m p o.heads) (states : (b : ℕ) → entry_in o.survey b ≡ entry_of count m p b) where
    pub groups_tabled : (b : ℕ) → b < count → group_in t b ≡ Some (group_of (state count m p b) (is_first count m p b))
    groups_tabled b l =
        g b
        ∙ ap (λ (s : Option BlockState). grouped s (first_in o.heads (numbers p) b)) (states b ∙ cond-true (ltb b count) _ _ (lt-ltb b count l))
        ∙ ap (λ (f : Bool). Some (group_of (state count m p b) f)) (first_tabled o.heads heads b)

    pub groups_beyond : (b : ℕ) → count ≤ b → group_in t b ≡ None
    groups_beyond b l = g b ∙ ap (λ (s : Option BlockState). grouped s (first_in o.heads (numbers p) b)) (states b ∙ cond-false (ltb b count) _ _ (le-ltb b count l))

  -- every block of a group is one of the flash's
  pub in_group_below : (g : Group) → AllByRecursion (λ x. x < count) (in_group count m p g)
  unfolding in_group
  in_group_below g =
      all_kept_by (λ b. same_group (group_of (state count m p b) (is_first count m p b)) g) (λ x. x < count) (range_with_len 0 count)
      (All-weaker (λ x. (0 ≤ x) × (x < 0 + count)) (λ x. x < count) (λ x h. omega (arith, h.1)) (range_with_len 0 count) (counting_within 0 count))
