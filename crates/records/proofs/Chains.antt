-- A walk along a chain that has come to following block j, at c.
use Rattle.std.proofs.Common.{◌≡◌, ℕ, ◌+◌, ◌-◌, ◌<◌, ◌≤◌, Bool, true, false, ◌&&◌, ltb, length, sym, refl, ap, ◌∙◌, add-one, arith}
use Rattle.std.proofs.lemmas.Bool.{and_parts, lt-ltb, le-ltb}
use Rattle.std.proofs.lemmas.Bool.Decides.{nat_tests}
use Rattle.flash.specs.State.{Words, Memory}
use Rattle.layout.specs.Sizes.{Sizes, size, followers}
use Rattle.layout.specs.Fields.{chain}
use Rattle.layout.specs.Sound.{candidate, coded, follows, leads, sound}
use Rattle.layout.proofs.Loops.{left_suc}

module _ (count : ℕ) (m : Memory) (s b j n c : ℕ) (a : Bool) (h : a ≡ leads count m s b j c (n - j)) where
  more : j < n → a ≡ (ltb c count && follows s j (m c) && leads count m s b (j + 1) (chain (m c)) (n - (j + 1)))
  more l = h ∙ rw (left_suc j n l, add-one j) refl

  pub walk_on : (w : Words) (d : ℕ) → j < n → c < count → w ≡ m c → true ≡ follows s j w → d ≡ chain w → a ≡ leads count m s b (j + 1) d (n - (j + 1))
  walk_on w d l o e f q =
      let t : ltb c count ≡ true = lt-ltb c count o in
      let g : follows s j (m c) ≡ true = ap (follows s j) (sym e) ∙ sym f in
      let r : chain (m c) ≡ d = sym (q ∙ ap chain e) in
      more l ∙ rw (t, g, r) refl

-- a block that is not below the count, or fails the check of its own words, is not sound
pub beyond_unsound : (count : ℕ) (m : Memory) (p : Sizes) (n b : ℕ) → count ≤ b → false ≡ sound count m p n b
unfolding sound
beyond_unsound count m p n b h = let e : ltb b count ≡ false = le-ltb b count h in rw e refl

pub unplanned_unsound : (count : ℕ) (m : Memory) (p : Sizes) (n b : ℕ) → length p ≤ n → false ≡ sound count m p n b
unfolding sound candidate
unplanned_unsound count m p n b h = let e : ltb n (length p) ≡ false = le-ltb n (length p) h in grind (arith, nat_tests)

pub unchecked_unsound : (count : ℕ) (m : Memory) (p : Sizes) (n b : ℕ) (w : Words) → w ≡ m b → false ≡ (candidate p n w && coded w) → false ≡ sound count m p n b
unfolding sound
unchecked_unsound count m p n b w e f =
    let g : (candidate p n (m b) && coded (m b)) ≡ false = ap (λ z. candidate p n z && coded z) (sym e) ∙ sym f in
    grind (arith, nat_tests)

-- one that passes is sound where its chain leads back to it
pub checked_sound : (count : ℕ) (m : Memory) (p : Sizes) (n b : ℕ) (w : Words) (z c : ℕ) → b < count → w ≡ m b → true ≡ (candidate p n w && coded w) → z ≡ size p n → c ≡ chain w
    → leads count m z b 0 c (followers z) ≡ sound count m p n b
unfolding sound
checked_sound count m p n b w z c l e f q d =
    let t : ltb b count ≡ true = lt-ltb b count l in
    let g : (candidate p n (m b) && coded (m b)) ≡ true = ap (λ z. candidate p n z && coded z) (sym e) ∙ sym f in
    let a = and_parts (candidate p n (m b)) (coded (m b)) g in
    let a₀ : candidate p n (m b) ≡ true = a.0 in
    let a₁ : coded (m b) ≡ true = a.1 in
    let r : c ≡ chain (m b) = d ∙ ap chain e in
    rw (t, a₀, a₁, q, r) refl
