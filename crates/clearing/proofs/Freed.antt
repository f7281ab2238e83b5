-- A clearing and a mending that were done leave their block blank but for its erase end; done or not, they leave every other block.
use Rattle.std.proofs.Common.{◌≡◌, ℕ, ◌<◌, List, ◌++◌, IfOk, Some, None, Ok, Err, Option, Result, refl, ap, ◌∙◌, inl, inr, arith}
use Rattle.std.proofs.lemmas.Bool.Decides.{nat_tests}
use Rattle.flash.specs.declared.fault.FlashFault.{FlashFault}
use Rattle.flash.specs.State.{State, Memory, put}
use Rattle.flash.specs.Commands.{Command}
use Rattle.flash.specs.Rules.{Model}
use Rattle.flash.specs.Lists.{Told, all_done, Taken, Spares}
use Rattle.flash.proofs.Lists.{through_means, cut_means, ran_spares}
use Rattle.flash.proofs.Carried.{same_state}
use Rattle.clearing.specs.Clearing.{mark, mending, starting, clearing, freed, Others}

-- no command touches another block
mending_spares : (v b c : ℕ) → (b ≡ c → ⊥) → Spares c (mending v b)
mending_spares v b c ne = (ne, (ne, tt))

clearing_spares : (v b c : ℕ) (m : Memory) → (b ≡ c → ⊥) → Spares c (clearing v b m)
clearing_spares v b c m ne = go (m b 14)
  where
    go : (o : Option ℕ) → Spares c (starting b o ++ mending v b)
    go None = (ne, mending_spares v b c ne)
    go (Some _) = mending_spares v b c ne

-- the words that are left when all is done
clearing_frees : (v b : ℕ) (s : State) → all_done (clearing v b s.word) s ≡ freed v b s
clearing_frees v b s = go (s.word b 14)
  where
    go : (o : Option ℕ) → all_done (starting b o ++ mending v b) s ≡ freed v b s
    go None = same_state _ _ refl refl (λ c x. grind (arith, nat_tests))
    go (Some _) = refl

-- no command is refused where the block is one of the flash's and power is on
pub mending_taken : (v b n : ℕ) (m : Memory) → b < n → Taken n (mending v b) m
mending_taken v b n m h = (h, ((h, omega arith, grind (arith, nat_tests)), tt))

pub clearing_taken : (v b n : ℕ) (m : Memory) → b < n → Taken n (clearing v b m) m
clearing_taken v b n m h = go (m b 14) refl
  where
    go : (o : Option ℕ) → m b 14 ≡ o → Taken n (starting b o ++ mending v b) m
    go None e = ((h, omega arith, e), mending_taken v b n (put m b 14 (Some mark)) h)
    go (Some _) e = mending_taken v b n m h

-- what follows from the list of commands alone
module _ {F : Type 0} (model : Model F) (refusal : Result (Unit {0}) FlashFault) (cs : List Command) (x y : F) (b : ℕ) where
  pub told_others : (r : Result (Unit {0}) FlashFault) → ((c : ℕ) → (b ≡ c → ⊥) → Spares c cs) → Told model refusal cs x r y → Others b (model.meaning x) (model.meaning y)
  told_others (Ok _) spares h c w ne = ran_spares model.kind c w cs (model.meaning x) (model.meaning y) (Ok tt) (spares c ne) (through_means model cs x y h.1)
  told_others (Err f) spares (inl h) c w ne = ap (λ z. (model.meaning z).word c w) h.1
  told_others (Err f) spares (inr h) c w ne = ran_spares model.kind c w cs (model.meaning x) (model.meaning y) (Err f) (spares c ne) (cut_means model cs x y f h.1)

  told_freed : (v : ℕ) (r : Result (Unit {0}) FlashFault) → all_done cs (model.meaning x) ≡ freed v b (model.meaning x) → Told model refusal cs x r y → IfOk r (λ _. model.meaning y ≡ freed v b (model.meaning x))
  told_freed v (Ok _) e h = through_means model cs x y h.1 ∙ e
  told_freed v (Err f) e h = tt

-- the same of a clearing and of a mending
module _ {F : Type 0} (model : Model F) (refusal : Result (Unit {0}) FlashFault) (x y : F) (b : ℕ) (r : Result (Unit {0}) FlashFault) where
  pub cleared_others : Told model refusal (clearing mark b (model.meaning x).word) x r y → Others b (model.meaning x) (model.meaning y)
  cleared_others = told_others model refusal (clearing mark b (model.meaning x).word) x y b r (λ c. clearing_spares mark b c (model.meaning x).word)

  pub cleared_freed : Told model refusal (clearing mark b (model.meaning x).word) x r y → IfOk r (λ _. model.meaning y ≡ freed mark b (model.meaning x))
  cleared_freed = told_freed model refusal (clearing mark b (model.meaning x).word) x y b mark r (clearing_frees mark b (model.meaning x))

  pub mended_others : Told model refusal (mending mark b) x r y → Others b (model.meaning x) (model.meaning y)
  mended_others = told_others model refusal (mending mark b) x y b r (λ c. mending_spares mark b c)

  pub mended_freed : Told model refusal (mending mark b) x r y → IfOk r (λ _. model.meaning y ≡ freed mark b (model.meaning x))
  mended_freed = told_freed model refusal (mending mark b) x y b mark r refl
