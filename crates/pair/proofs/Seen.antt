-- A command of the first or of the second flash, as the pair sees it.
use Rattle.std.proofs.Common.{◌≡◌, ℕ, ◌-◌, ◌<◌, ◌≤◌, Bool, true, false, ◌&&◌, ltb, Ok, Result, sym, refl, ap, ◌∙◌, subst, inl, inr, arith}
use Rattle.std.proofs.lemmas.Bool.{lt-ltb, le-ltb, cases_lt, cond-true, cond-false}
use Rattle.std.proofs.lemmas.Bool.Decides.{nat_tests}
use Rattle.flash.specs.declared.BlockNumber.{BlockNumber}
use Rattle.flash.specs.declared.fault.FlashFault.{FlashFault}
use Rattle.flash.specs.Faults.{raised}
use Rattle.flash.specs.State.{State}
use Rattle.flash.specs.Commands.{Command, program, erase, block_of, word_of, allowed, verdict, done, Stopped}
use Rattle.flash.specs.Rules.{Model, Obeys}
use Rattle.flash.proofs.Carried.{same_state, allowed_ok, carried}
use Rattle.pair.specs.declared.Pair.{Pair}
use Rattle.pair.specs.declared.Side.{Side}
use Rattle.pair.specs.declared.Side.TheVariants.{First, Second}
use Rattle.pair.specs.Pairs.{pair_count, pair_state, side, lowered, joined}

-- over states: the refusals, a command that is done, and one in which power goes
module _ (s t : State) where
  verdict_first : (k : ℕ) (c : Command) → (s.power && t.power) ≡ true → block_of c < pair_count s t → word_of c < 16 → block_of c < s.count
      → verdict 4 c (pair_state s t) ≡ raised 4 (block_of c) (word_of c) (verdict k c s)
  verdict_first k (program b w v) on inside low side = grind (arith, nat_tests)
  verdict_first k (erase b) on inside low side = grind (arith, nat_tests)

  done_first : (c : Command) → block_of c < pair_count s t → block_of c < s.count → pair_state (done c s) t ≡ done c (pair_state s t)
  done_first (program b w v) inside side = same_state _ _ refl refl (λ c x. grind (arith, nat_tests))
  done_first (erase b) inside side = same_state _ _ refl refl (λ c x. grind (arith, nat_tests))

  stopped_first : (c : Command) (u : State) → block_of c < pair_count s t → block_of c < s.count → Stopped c s u → Stopped c (pair_state s t) (pair_state u t)
  stopped_first (program b w v) u inside side h = (h.0, h.1, ap (λ z. pair_state z t) h.2 ∙ same_state _ _ refl refl (λ c x. grind (arith, nat_tests)))
  stopped_first (erase b) u inside side h = (h.0, ap (λ z. pair_state z t) h.1 ∙ same_state _ _ refl refl (λ c x. grind (arith, nat_tests)))

  verdict_second : (k : ℕ) (c : Command) → (s.power && t.power) ≡ true → block_of c < pair_count s t → word_of c < 16 → s.count ≤ block_of c
      → verdict 4 c (pair_state s t) ≡ raised 4 (block_of c) (word_of c) (verdict k (lowered s.count c) t)
  verdict_second k (program b w v) on inside low side = grind (arith, nat_tests)
  verdict_second k (erase b) on inside low side = grind (arith, nat_tests)

  done_second : (c : Command) → block_of c < pair_count s t → s.count ≤ block_of c → pair_state s (done (lowered s.count c) t) ≡ done c (pair_state s t)
  done_second (program b w v) inside side = same_state _ _ refl refl (λ c x. grind (arith, nat_tests))
  done_second (erase b) inside side = same_state _ _ refl refl (λ c x. grind (arith, nat_tests))

  and_false : (p : Bool) → (p && false) ≡ false
  and_false true = refl
  and_false false = refl

  stopped_second : (c : Command) (u : State) → block_of c < pair_count s t → s.count ≤ block_of c → Stopped (lowered s.count c) t u → Stopped c (pair_state s t) (pair_state s u)
  stopped_second (program b w v) u inside side h =
      (h.0, h.1, ap (pair_state s) h.2 ∙ same_state _ _ refl (and_false s.power) (λ c x. grind (arith, nat_tests)))
  stopped_second (erase b) u inside side h =
      (h.0, ap (pair_state s) h.1 ∙ same_state _ _ refl (and_false s.power) (λ c x. grind (arith, nat_tests)))

-- which side a block was found on
side_first : (n b : ℕ) (at : BlockNumber) → side n b ≡ First at → (b < n) × (at.0 ≡ b)
side_first n b at h = elim (cases_lt b n) [
  | inl l ↦ (l, let e : First (record { 0 = b }) ≡ First at = sym (cond-true (ltb b n) _ _ (lt-ltb b n l)) ∙ h in cc)
  | inr l ↦ let e : Second (record { 0 = b - n }) ≡ First at = sym (cond-false (ltb b n) _ _ (le-ltb b n l)) ∙ h in let z : ◌≡◌ {A = ℕ} 0 1 = cc in absurd (omega arith)
]

side_second : (n b : ℕ) (at : BlockNumber) → side n b ≡ Second at → (n ≤ b) × (at.0 ≡ b - n)
side_second n b at h = elim (cases_lt b n) [
  | inl l ↦ let e : First (record { 0 = b }) ≡ Second at = sym (cond-true (ltb b n) _ _ (lt-ltb b n l)) ∙ h in let z : ◌≡◌ {A = ℕ} 0 1 = cc in absurd (omega arith)
  | inr l ↦ (l, let e : Second (record { 0 = b - n }) ≡ Second at = sym (cond-false (ltb b n) _ _ (le-ltb b n l)) ∙ h in cc)
]

-- a command at a place that the pair does not refuse, given as `told` to block `at` of the flash that it was found on
module _ {A B : Type 0} (first : Model A) (second : Model B) (x : Pair A B) (c : Command) (told : ℕ → Command) (r q : Result (Unit {0}) FlashFault) (on : Side) (at : BlockNumber)
    (place : Ok on ≡ allowed 4 ((joined first second).meaning x) (block_of c) (word_of c) (Ok (side (first.meaning x.first).count (block_of c))))
    (answer : q ≡ raised 4 (block_of c) (word_of c) r) where
  abbrev s : State
  s = first.meaning x.first

  abbrev t : State
  t = second.meaning x.second

  abbrev n : ℕ
  n = s.count

  open_place : ((s.power && t.power) ≡ true) × (block_of c < pair_count s t) × (word_of c < 16) × (◌≡◌ {A = Result Side FlashFault} (Ok (side n (block_of c))) (Ok on))
  open_place = allowed_ok 4 ((joined first second).meaning x) (block_of c) (word_of c) (Ok (side n (block_of c))) on (sym place)

  found : side n (block_of c) ≡ on
  found = let e = open_place.3 in cc

  pub first_seen : (y : A) → on ≡ First at → told (block_of c) ≡ c → Obeys first (told at.0) x.first r y
      → Obeys (joined first second) c x q (record { first = y; second = x.second })
  first_seen y is as-told h =
      let side-is = side_first n (block_of c) at (found ∙ is) in
      let e : ltb (block_of c) n ≡ true = lt-ltb (block_of c) n side-is.0 in
      let to : told at.0 ≡ c = ap told side-is.1 ∙ as-told in
      carried first (joined first second) c c x.first y x (record { first = y; second = x.second }) r q
      (record {
        verdicts = verdict_first s t first.kind c open_place.0 open_place.1 open_place.2 side-is.0;
        same = λ d. ap (λ z. record { first = z; second = x.second }) d;
        dones = λ d. ap (λ z. pair_state z t) d ∙ done_first s t c open_place.1 side-is.0;
        stops = stopped_first s t c (first.meaning y) open_place.1 side-is.0;
        did = λ d. rw e (d, refl);
        lost = λ d. rw e (d, refl);
      })
      answer (subst (λ d. Obeys first d x.first r y) to h)

  pub second_seen : (y : B) → on ≡ Second at → told (block_of c - n) ≡ lowered n c → Obeys second (told at.0) x.second r y
      → Obeys (joined first second) c x q (record { first = x.first; second = y })
  second_seen y is as-told h =
      let side-is = side_second n (block_of c) at (found ∙ is) in
      let e : ltb (block_of c) n ≡ false = le-ltb (block_of c) n side-is.0 in
      let to : told at.0 ≡ lowered n c = ap told side-is.1 ∙ as-told in
      carried second (joined first second) (lowered n c) c x.second y x (record { first = x.first; second = y }) r q
      (record {
        verdicts = verdict_second s t second.kind c open_place.0 open_place.1 open_place.2 side-is.0;
        same = λ d. ap (λ z. record { first = x.first; second = z }) d;
        dones = λ d. ap (pair_state s) d ∙ done_second s t c open_place.1 side-is.0;
        stops = stopped_second s t c (second.meaning y) open_place.1 side-is.0;
        did = λ d. rw e (d, refl);
        lost = λ d. rw e (d, refl);
      })
      answer (subst (λ d. Obeys second d x.second r y) to h)
