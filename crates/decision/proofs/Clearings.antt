-- Blocks cleared one after another: one block more, one list of blocks after another, and that no command of it is refused.
use Rattle.std.proofs.Common.{◌≡◌, ℕ, ◌<◌, List, [], ◌∷◌, ◌++◌, Result, sym, refl, ap, ◌∙◌, subst, append_assoc}
use Rattle.std.specs.List.{AllByRecursion}
use Rattle.flash.specs.declared.fault.FlashFault.{FlashFault}
use Rattle.flash.specs.State.{State, Memory}
use Rattle.flash.specs.Commands.{Command}
use Rattle.flash.specs.Rules.{Model}
use Rattle.flash.specs.Lists.{Through, Cut, Given, applied_all, Taken}
use Rattle.flash.proofs.Lists.{given_then, cut_first, through_means}
use Rattle.clearing.specs.Clearing.{mark, clearing}
use Rattle.clearing.proofs.Freed.{clearing_taken}
use Rattle.writing.proofs.Fill.{applied_append}
use Rattle.writing.proofs.Taken.{taken_then}
use Rattle.decision.specs.Calls.{clearings}

-- no command is refused where the blocks are the flash's and power is on
pub clearings_taken : (n : ℕ) (bs : List ℕ) (m : Memory) → AllByRecursion (λ b. b < n) bs → Taken n (clearings m bs) m
clearings_taken n [] m h = tt
clearings_taken n (b ∷ bs) m h =
    taken_then n (clearing mark b m) (clearings (applied_all (clearing mark b m) m) bs) m (clearing_taken mark b n m h.0) (clearings_taken n bs (applied_all (clearing mark b m) m) h.1)

-- one list of blocks after another
pub clearings_append : (xs ys : List ℕ) (m : Memory) → clearings m (xs ++ ys) ≡ clearings m xs ++ clearings (applied_all (clearings m xs) m) ys
clearings_append [] ys m = refl
clearings_append (b ∷ xs) ys m =
    let n = applied_all (clearing mark b m) m in
    ap (λ (cs : List Command). clearing mark b m ++ cs) (clearings_append xs ys n)
    ∙ sym (append_assoc (clearing mark b m) (clearings n xs) (clearings (applied_all (clearings n xs) n) ys))
    ∙ ap (λ (w : Memory). (clearing mark b m ++ clearings n xs) ++ clearings w ys) (sym (applied_append (clearing mark b m) (clearings n xs) m))

module _ {F : Type 0} (model : Model F) where
  abbrev words : F → Memory
  words x = (model.meaning x).word

  left : (cs : List Command) (x z : F) → Through model cs x z → words z ≡ applied_all cs (words x)
  left cs x z h = ap (λ (s : State). s.word) (through_means model cs x z h)

  -- the next block was cleared
  pub cleared_more : (b : ℕ) (bs : List ℕ) (x z y : F) (r : Result (Unit {0}) FlashFault) → Through model (clearing mark b (words x)) x z
      → Given model (clearings (words z) bs) z r y → Given model (clearings (words x) (b ∷ bs)) x r y
  cleared_more b bs x z y r h g =
      given_then model (clearing mark b (words x)) (clearings (applied_all (clearing mark b (words x)) (words x)) bs) x z y r h
      (subst (λ (m : Memory). Given model (clearings m bs) z r y) (left (clearing mark b (words x)) x z h) g)

  -- power went in its clearing
  pub cleared_cut : (b : ℕ) (bs : List ℕ) (x y : F) (f : FlashFault) → Cut model (clearing mark b (words x)) x f y → Cut model (clearings (words x) (b ∷ bs)) x f y
  cleared_cut b bs x y f h = cut_first model (clearing mark b (words x)) (clearings (applied_all (clearing mark b (words x)) (words x)) bs) x y f h

  -- the same of a list of blocks
  pub group_more : (xs ys : List ℕ) (x z y : F) (r : Result (Unit {0}) FlashFault) → Through model (clearings (words x) xs) x z
      → Given model (clearings (words z) ys) z r y → Given model (clearings (words x) (xs ++ ys)) x r y
  group_more xs ys x z y r h g =
      subst (λ (cs : List Command). Given model cs x r y) (sym (clearings_append xs ys (words x)))
      (given_then model (clearings (words x) xs) (clearings (applied_all (clearings (words x) xs) (words x)) ys) x z y r h
      (subst (λ (m : Memory). Given model (clearings m ys) z r y) (left (clearings (words x) xs) x z h) g))

  pub group_cut : (xs ys : List ℕ) (x y : F) (f : FlashFault) → Cut model (clearings (words x) xs) x f y → Cut model (clearings (words x) (xs ++ ys)) x f y
  group_cut xs ys x y f h =
      subst (λ (cs : List Command). Cut model cs x f y) (sym (clearings_append xs ys (words x)))
      (cut_first model (clearings (words x) xs) (clearings (applied_all (clearings (words x) xs) (words x)) ys) x y f h)
