-- The state of a block, from its erase marks.
use Rattle.std.proofs.Common.{◌≡◌, ℕ, Bool, false, Some, None, sym, refl}
use Rattle.flash.specs.State.{Words}
use Rattle.layout.specs.Fields.{all_blank}
use Rattle.layout.specs.States.{is_half_erased, clean, stated}

-- the marks tell whether a block is half erased
pub not_half : (m : Words) (v : ℕ) → None ≡ m 14 → Some v ≡ m 15 → is_half_erased m ≡ false
not_half m v p q = let i = sym p in let j = sym q in rw (i, j) refl

pub is_clean : (m : Words) (t : Bool) → t ≡ all_blank m 0 15 → clean m ≡ t
unfolding clean
is_clean m t h = sym h

pub stated_as : (m : Words) (h f u : Bool) (u' : Bool) → is_half_erased m ≡ h → clean m ≡ f → u' ≡ u → stated h f u ≡ stated (is_half_erased m) (clean m) u'
stated_as m h f u u' p q r = rw (p, q, r) refl
