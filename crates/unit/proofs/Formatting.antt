-- Clearing the blocks of a group one by one, and one group after another.
use Rattle.std.proofs.Common.{◌≡◌, ℕ, ◌+◌, ◌-◌, ◌<◌, ◌≤◌, Bool, true, false, cond, List, [], ◌∷◌, ◌++◌, length, get_or, drop, Some, filter, Option, Result, sym, refl, ap, ◌∙◌, subst, arith}
use Rattle.std.specs.List.{range_with_len}
use Rattle.std.proofs.ByRecursion.{All-weaker}
use Rattle.std.proofs.lemmas.List.{at_drop_more, at_drop_all}
use Rattle.flash.specs.declared.fault.FlashFault.{FlashFault}
use Rattle.flash.specs.State.{State, Memory}
use Rattle.flash.specs.Rules.{Model}
use Rattle.flash.specs.Lists.{Through, Cut, Given}
use Rattle.flash.proofs.Lists.{through_means}
use Rattle.layout.specs.Sizes.{Sizes}
use Rattle.layout.specs.States.{state}
use Rattle.layout.proofs.Loops.{left_suc}
use Rattle.choice.specs.declared.group.Group.{Group}
use Rattle.choice.specs.declared.group.Groups.{Groups}
use Rattle.choice.specs.Choosing.{same_group, group_of, is_first, in_group, in_groups, group_order, format_order}
use Rattle.choice.specs.Tables.{group_in}
use Rattle.choice.proofs.Held.{counting_within, kept_alike}
use Rattle.decision.specs.Calls.{clearings}
use Rattle.decision.proofs.Clearings.{group_more, group_cut}
use Rattle.unit.specs.Grouped.{is_group, has_group, of_group, of_groups}

-- one block, and then the others
kept_more : (q : ℕ → Bool) (b n : ℕ) → b < n → filter q (range_with_len b (n - b)) ≡ cond (q b) (b ∷ []) [] ++ filter q (range_with_len (b + 1) (n - (b + 1)))
kept_more q b n h = ap (λ (i : ℕ). filter q (range_with_len b i)) (left_suc b n h) ∙ go (q b)
  where
    go : (t : Bool) → cond t (b ∷ filter q (range_with_len (b + 1) (n - (b + 1)))) (filter q (range_with_len (b + 1) (n - (b + 1)))) ≡ cond t (b ∷ []) [] ++ filter q (range_with_len (b + 1) (n - (b + 1)))
    go true = refl
    go false = refl

module _ {F : Type 0} (model : Model F) where
  abbrev words : F → Memory
  words x = (model.meaning x).word

  -- clearings that were done leave power on, and the block count
  pub stays_on : (bs : List ℕ) (x y : F) → Through model (clearings (words x) bs) x y → (model.meaning y).power ≡ (model.meaning x).power
  stays_on bs x y h = ap (λ (s : State). s.power) (through_means model (clearings (words x) bs) x y h)

  pub same_count : (bs : List ℕ) (x y : F) → Through model (clearings (words x) bs) x y → (model.meaning y).count ≡ (model.meaning x).count
  same_count bs x y h = ap (λ (s : State). s.count) (through_means model (clearings (words x) bs) x y h)

  module _ (q : ℕ → Bool) (b n : ℕ) (l : b < n) where
    -- the block at b was cleared, or is not to be
    pub block_more : (x z y : F) (r : Result (Unit {0}) FlashFault) → Through model (clearings (words x) (cond (q b) (b ∷ []) [])) x z
        → Given model (clearings (words z) (filter q (range_with_len (b + 1) (n - (b + 1))))) z r y → Given model (clearings (words x) (filter q (range_with_len b (n - b)))) x r y
    block_more x z y r h g =
        subst (λ (bs : List ℕ). Given model (clearings (words x) bs) x r y) (sym (kept_more q b n l))
        (group_more model (cond (q b) (b ∷ []) []) (filter q (range_with_len (b + 1) (n - (b + 1)))) x z y r h g)

    -- power went in its clearing
    pub block_cut : (x y : F) (f : FlashFault) → Cut model (clearings (words x) (cond (q b) (b ∷ []) [])) x f y → Cut model (clearings (words x) (filter q (range_with_len b (n - b)))) x f y
    block_cut x y f h =
        subst (λ (bs : List ℕ). Cut model (clearings (words x) bs) x f y) (sym (kept_more q b n l))
        (group_cut model (cond (q b) (b ∷ []) []) (filter q (range_with_len (b + 1) (n - (b + 1)))) x y f h)

-- the blocks of a table of the groups of all blocks are those of the flash
module _ (count : ℕ) (m : Memory) (p : Sizes) (t : Groups)
    (right : (b : ℕ) → b < count → group_in t b ≡ Some (group_of (state count m p b) (is_first count m p b))) where
  group_is : (g : Group) → of_group t g count ≡ in_group count m p g
  unfolding in_group
  group_is g =
      kept_alike (has_group t g) (λ b. same_group (group_of (state count m p b) (is_first count m p b)) g) (range_with_len 0 count)
      (All-weaker (λ x. (0 ≤ x) × (x < 0 + count)) (λ x. has_group t g x ≡ same_group (group_of (state count m p x) (is_first count m p x)) g)
      (λ x h. ap (λ (o : Option Group). is_group o g) (right x (omega (arith, h.1)))) (range_with_len 0 count) (counting_within 0 count))

  groups_are : (gs : List Group) → of_groups t gs count ≡ in_groups count m p gs
  groups_are [] = refl
  groups_are (g ∷ gs) = rw (group_is g, groups_are gs) refl

  pub order_is : of_groups t group_order count ≡ format_order count m p
  unfolding format_order
  order_is = groups_are group_order

-- the groups from the i-th on: one group, and then the others
module _ {F : Type 0} (model : Model F) (t : Groups) (gs : List Group) (i n : ℕ) (g : Group) (l : i < length gs) where
  abbrev next : ℕ → List ℕ
  next k = of_group t (get_or gs i g) k

  abbrev rest : List ℕ
  rest = of_groups t (drop (i + 1) gs) n

  from_here : of_groups t (drop i gs) n ≡ next n ++ rest
  from_here = at_drop_more (λ (hs : List Group). of_groups t hs n) gs i g l

  -- the next group was cleared
  pub next_more : (k : ℕ) → k ≡ n → (x z y : F) (r : Result (Unit {0}) FlashFault) → Through model (clearings (words model x) (next k)) x z
      → Given model (clearings (words model z) rest) z r y → Given model (clearings (words model x) (of_groups t (drop i gs) n)) x r y
  next_more k e x z y r h f =
      subst (λ (bs : List ℕ). Given model (clearings (words model x) bs) x r y) (sym from_here)
      (group_more model (next n) rest x z y r (subst (λ (j : ℕ). Through model (clearings (words model x) (next j)) x z) e h) f)

  -- power went in its clearing
  pub next_cut : (k : ℕ) → k ≡ n → (x y : F) (f : FlashFault) → Cut model (clearings (words model x) (next k)) x f y → Cut model (clearings (words model x) (of_groups t (drop i gs) n)) x f y
  next_cut k e x y f h =
      subst (λ (bs : List ℕ). Cut model (clearings (words model x) bs) x f y) (sym from_here)
      (group_cut model (next n) rest x y f (subst (λ (j : ℕ). Cut model (clearings (words model x) (next j)) x f y) e h))

-- no group is left
pub groups_end : {F : Type 0} (model : Model F) (t : Groups) (gs : List Group) (i n : ℕ) (x : F) → length gs ≤ i → Through model (clearings (model.meaning x).word (of_groups t (drop i gs) n)) x x
groups_end {F} model t gs i n x l =
    subst (λ (bs : List ℕ). Through model (clearings (model.meaning x).word bs) x x) (sym (at_drop_all (λ (hs : List Group). of_groups t hs n) gs i l)) refl
