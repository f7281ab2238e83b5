-- What the head of a current record tells.
use Rattle.std.proofs.Common.{◌≡◌, ℕ, ◌<◌, true, Some, None, Option, sym, refl, ap, subst, arith}
use Rattle.std.proofs.lemmas.Bool.Decides.{nat_tests}
use Rattle.flash.specs.State.{Memory}
use Rattle.layout.specs.Sizes.{Sizes, numbers}
use Rattle.layout.specs.Sound.{candidate, sound}
use Rattle.layout.specs.Records.{current, Current}
use Rattle.layout.proofs.Currents.{current_is}
use Rattle.records.specs.declared.head.Head.{Head}
use Rattle.records.specs.Heads.{head_at, headed}

pub headed_none : (m : Memory) (o : Option ℕ) → None ≡ headed m o → o ≡ None
headed_none m None h = refl
headed_none m (Some b) h = absurd (let z : ◌≡◌ {A = ℕ} 0 1 = cc in omega arith)

headed_some : (m : Memory) (o : Option ℕ) (h : Head) → Some h ≡ headed m o → o ≡ Some h.block.0
headed_some m None h e = absurd (let z : ◌≡◌ {A = ℕ} 0 1 = cc in omega arith)
headed_some m (Some b) h e = let q : h ≡ head_at m b = cc in ap Some (sym (ap (λ (x : Head). x.block.0) q))

module _ (count : ℕ) (m : Memory) (p : Sizes) (n : ℕ) (h : Head) (found : Some h ≡ headed m (current count m p n)) where
  -- its block is the current record's first block
  pub head_is : current count m p n ≡ Some h.block.0
  head_is = headed_some m (current count m p n) h found

  -- which is sound, so one of the flash's, and of a number of the plan
  pub head_sound : sound count m p n h.block.0 ≡ true
  head_sound = (subst (Current count m p n) head_is (current_is count m p n)).0

  pub head_inside : h.block.0 < count
  unfolding sound
  head_inside = let s = head_sound in grind (arith, nat_tests)

  pub head_planned : n < numbers p
  unfolding sound candidate
  head_planned = let s = head_sound in grind (arith, nat_tests)
