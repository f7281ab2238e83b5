-- What is copied of a record, and that the value of a number is the data of its current record.
use Rattle.std.proofs.Common.{◌≡◌, ℕ, ◌<◌, true, Some, None, sym, refl, arith}
use Rattle.std.proofs.lemmas.Bool.Decides.{nat_tests}
use Rattle.std.proofs.lemmas.Bool.{cond-true}
use Rattle.flash.specs.State.{Memory}
use Rattle.layout.specs.Sizes.{Sizes, numbers}
use Rattle.layout.specs.Sound.{candidate, sound}
use Rattle.layout.specs.Records.{current, data_at, value}
use Rattle.records.specs.declared.head.Head.{Head}
use Rattle.records.specs.Heads.{headed}
use Rattle.records.proofs.Headed.{headed_none, head_is, head_sound}
use Rattle.values.specs.Copying.{recorded}

module _ (count : ℕ) (m : Memory) (p : Sizes) (n b : ℕ) where
  -- a sound record is one of a number of the plan
  pub sound_planned : sound count m p n b ≡ true → n < numbers p
  unfolding sound candidate
  sound_planned h = grind (arith, nat_tests)

module _ (count : ℕ) (m : Memory) (p : Sizes) (n : ℕ) where
  -- no head, no value
  pub none_valued : None ≡ headed m (current count m p n) → value count m p n ≡ None
  unfolding value
  none_valued h = let e = headed_none m (current count m p n) h in rw e refl

  -- the value is the data of the current record
  pub head_valued : (h : Head) → Some h ≡ headed m (current count m p n) → value count m p n ≡ recorded count m p n h.block.0
  unfolding value
  head_valued h found =
      let e = head_is count m p n h found in
      rw e (sym (cond-true (sound count m p n h.block.0) (Some (data_at m p n h.block.0)) None (head_sound count m p n h found)))
