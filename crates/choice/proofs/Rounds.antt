-- The round of a flash: every block once, from the one after the newest record's first block on.
use Rattle.std.proofs.Common.{◌≡◌, ℕ, zero, suc, ◌+◌, ◌-◌, ◌<◌, ◌≤◌, min, Bool, ◌&&◌, ◌||◌, eqb, ltb, List, ◌++◌, length, Some, None, filter, Option, sym, refl, ap, ◌∙◌, add-one, arith}
use Rattle.std.specs.List.{range_with_len, AllByRecursion}
use Rattle.std.proofs.lemmas.List.Elements.{filter-append}
use Rattle.std.proofs.ByRecursion.{All-append, All-weaker}
use Rattle.std.proofs.lemmas.List.{length-append}
use Rattle.std.proofs.lemmas.Bool.{cond_both}
use Rattle.std.proofs.lemmas.Bool.Decides.{nat_tests}
use Rattle.flash.specs.State.{Memory}
use Rattle.layout.specs.Sizes.{Sizes, numbers}
use Rattle.layout.specs.Fields.{serial}
use Rattle.layout.specs.Sound.{sound}
use Rattle.layout.specs.Records.{current, Current, newer, newest_below, newest, after, round}
use Rattle.layout.proofs.Currents.{current_is}
use Rattle.writing.specs.Law.{Distinct}
use Rattle.records.specs.declared.head.Head.{Head}
use Rattle.records.specs.Heads.{headed}
use Rattle.choice.specs.declared.round.Round.{Round}
use Rattle.choice.specs.Tables.{after_head, round_after, round_of}
use Rattle.choice.proofs.Held.{not_held, counting_within, counting_held, counting_distinct, distinct_append}

-- no round has a block twice
pub round_apart : (r : Round) → Distinct (round_of r)
round_apart r =
    let a = r.start in
    let k = r.count - r.start in
    distinct_append (range_with_len a k) (range_with_len 0 a) (counting_distinct a k) (counting_distinct 0 a)
    (λ x h. not_held (range_with_len 0 a) x (λ i. let p = counting_held a k x h in let q = counting_held 0 a x i in omega arith))

-- a block, if there is one, is below k
abbrev pub Below : ℕ → Option ℕ → Type 0
Below k None = Unit {0}
Below k (Some b) = b < k

-- numbers in two parts
counting_append : (a s k : ℕ) → range_with_len s (a + k) ≡ range_with_len s a ++ range_with_len (s + a) k
counting_append zero s k =
    let e : 0 + k ≡ k = omega arith in
    let f : s + 0 ≡ s = omega arith in
    rw (e, f)
counting_append (suc a) s k =
    let e : suc a + k ≡ suc (a + k) = omega arith in
    let f : s + suc a ≡ s + 1 + a = omega arith in
    let r : range_with_len (s + 1) (a + k) ≡ range_with_len (s + 1) a ++ range_with_len (s + 1 + a) k = counting_append a (s + 1) k in
    rw (e, f, r)

module _ (count : ℕ) (m : Memory) (p : Sizes) where
  pub current_below : (n : ℕ) → Below count (current count m p n)
  unfolding sound
  current_below n = go (current count m p n) (current_is count m p n)
    where
      go : (o : Option ℕ) → Current count m p n o → Below count o
      go None h = tt
      go (Some b) h = let s = h.0 in grind (arith, nat_tests)

  newer_below : (o c : Option ℕ) → Below count o → Below count c → Below count (newer m o c)
  newer_below None c h q = q
  newer_below (Some b) None h q = h
  newer_below (Some b) (Some c) h q =
      cond_both (ltb (serial (m b)) (serial (m c)) || (eqb (serial (m b)) (serial (m c)) && ltb c b)) (Some c) (Some b) (Below count) (λ _. q) (λ _. h)

  below_below : (n : ℕ) → Below count (newest_below count m p n)
  below_below zero = tt
  below_below (suc n) = newer_below (newest_below count m p n) (current count m p n) (below_below n) (current_below n)

  pub newest_on_flash : Below count (newest count m p)
  unfolding newest
  newest_on_flash = below_below (numbers p)

  -- where the round starts
  pub start_below : after (newest count m p) ≤ count
  start_below = go (newest count m p) newest_on_flash
    where
      go : (o : Option ℕ) → Below count o → after o ≤ count
      go None h = omega arith
      go (Some b) h = h

  pub round_within : AllByRecursion (λ x. x < count) (round count m p)
  unfolding round
  round_within =
      let a = after (newest count m p) in
      let l = start_below in
      All-append (λ x. x < count) (range_with_len a (count - a)) (range_with_len 0 a)
      (All-weaker (λ x. (a ≤ x) × (x < a + (count - a))) (λ x. x < count) (λ x h. omega (arith, h.0, h.1)) (range_with_len a (count - a)) (counting_within a (count - a)))
      (All-weaker (λ x. (0 ≤ x) × (x < 0 + a)) (λ x. x < count) (λ x h. omega (arith, h.1)) (range_with_len 0 a) (counting_within 0 a))

  pub round_distinct : Distinct (round count m p)
  unfolding round
  round_distinct =
      let a = after (newest count m p) in
      let k = count - after (newest count m p) in
      distinct_append (range_with_len a k) (range_with_len 0 a) (counting_distinct a k) (counting_distinct 0 a)
      (λ x h. not_held (range_with_len 0 a) x (λ i. let r = counting_held a k x h in let q = counting_held 0 a x i in omega arith))

  -- as many blocks of the round pass a test as of the flash
  pub round_length : (t : ℕ → Bool) → length (filter t (round count m p)) ≡ length (filter t (range_with_len 0 count))
  unfolding round
  round_length t =
      let a = after (newest count m p) in
      let b = count - after (newest count m p) in
      let l = start_below in
      let e : after (newest count m p) + (count - after (newest count m p)) ≡ count = omega arith in
      let f : 0 + after (newest count m p) ≡ after (newest count m p) = omega arith in
      let x : length (filter t (range_with_len a b ++ range_with_len 0 a)) ≡ length (filter t (range_with_len a b)) + length (filter t (range_with_len 0 a)) =
      ap length (filter-append t (range_with_len a b) (range_with_len 0 a)) ∙ length-append (filter t (range_with_len a b)) (filter t (range_with_len 0 a)) in
      let y : range_with_len 0 count ≡ range_with_len 0 a ++ range_with_len a b = ap (range_with_len 0) (sym e) ∙ counting_append a 0 b ∙ ap (λ (k : ℕ). range_with_len 0 a ++ range_with_len k b) f in
      let z : length (filter t (range_with_len 0 count)) ≡ length (filter t (range_with_len 0 a)) + length (filter t (range_with_len a b)) =
      ap (λ (q : List ℕ). length (filter t q)) y ∙ ap length (filter-append t (range_with_len 0 a) (range_with_len a b)) ∙ length-append (filter t (range_with_len 0 a)) (filter t (range_with_len a b)) in
      x ∙ omega arith

  after_headed : (o : Option ℕ) → after_head (headed m o) ≡ after o
  after_headed None = refl
  after_headed (Some b) = add-one b

  -- the round after the newest record's head is the round of the flash
  pub round_is : (o : Option Head) → o ≡ headed m (newest count m p) → round_of (round_after o count) ≡ round count m p
  unfolding round
  round_is o e =
      let l = start_below in
      let s : after_head o ≡ after (newest count m p) = ap after_head e ∙ after_headed (newest count m p) in
      let z : min (after_head o) count ≡ after (newest count m p) = omega (arith, s, l) in
      ap (λ (a : ℕ). range_with_len a (count - a) ++ range_with_len 0 a) z
