-- A command of the flash below, as the part sees it.
use Rattle.std.proofs.Common.{◌≡◌, ℕ, ◌+◌, ◌<◌, true, Ok, Result, sym, refl, ap, ◌∙◌, subst, arith}
use Rattle.std.proofs.lemmas.Bool.Decides.{nat_tests}
use Rattle.flash.specs.declared.BlockNumber.{BlockNumber}
use Rattle.flash.specs.declared.fault.FlashFault.{FlashFault}
use Rattle.flash.specs.Faults.{raised}
use Rattle.flash.specs.State.{State}
use Rattle.flash.specs.Commands.{Command, program, erase, block_of, word_of, allowed, verdict, done, Stopped}
use Rattle.flash.specs.Rules.{Model, Obeys}
use Rattle.flash.proofs.Carried.{same_state, allowed_ok, carried}
use Rattle.part.specs.declared.Part.{Part}
use Rattle.part.specs.Parts.{part_count, part_state, shifted, over, partial}

-- over states: the refusals, a command that is done, and one in which power goes
module _ (a n : ℕ) (s : State) where
  verdict_seen : (k : ℕ) (c : Command) → s.power ≡ true → block_of c < part_count a n s → word_of c < 16
      → verdict 3 c (part_state a n s) ≡ raised 3 (block_of c) (word_of c) (verdict k (shifted a c) s)
  verdict_seen k (program b w v) on inside low = grind (arith, nat_tests)
  verdict_seen k (erase b) on inside low = grind (arith, nat_tests)

  done_seen : (c : Command) → block_of c < part_count a n s → part_state a n (done (shifted a c) s) ≡ done c (part_state a n s)
  done_seen (program b w v) inside = same_state _ _ refl refl (λ c x. grind (arith, nat_tests))
  done_seen (erase b) inside = same_state _ _ refl refl (λ c x. grind (arith, nat_tests))

  stopped_seen : (c : Command) (t : State) → block_of c < part_count a n s → Stopped (shifted a c) s t → Stopped c (part_state a n s) (part_state a n t)
  stopped_seen (program b w v) t inside h = (h.0, h.1, ap (part_state a n) h.2 ∙ same_state _ _ refl refl (λ c x. grind (arith, nat_tests)))
  stopped_seen (erase b) t inside h = (h.0, ap (part_state a n) h.1 ∙ same_state _ _ refl refl (λ c x. grind (arith, nat_tests)))

-- a command at a place that the part does not refuse, given to block `at` of the flash below
pub command_seen : {F : Type 0} (model : Model F) (x : Part F) (y : F) (at : BlockNumber) (r q : Result (Unit {0}) FlashFault) (c : Command) (told : ℕ → Command)
    → Ok at ≡ allowed 3 ((partial model).meaning x) (block_of c) (word_of c) (Ok (record { 0 = x.first.0 + block_of c }))
    → told (x.first.0 + block_of c) ≡ shifted x.first.0 c
    → q ≡ raised 3 (block_of c) (word_of c) r → Obeys model (told at.0) x.below r y → Obeys (partial model) c x q (over y x)
command_seen model x y at r q c told e shift p h =
    let a = x.first.0 in
    let s = model.meaning x.below in
    let ok = allowed_ok 3 ((partial model).meaning x) (block_of c) (word_of c) (Ok (record { 0 = a + block_of c })) at (sym e) in
    let to : told at.0 ≡ shifted a c = ap told (ap (λ (n : BlockNumber). n.0) (sym (ok_same ok.3))) ∙ shift in
    carried model (partial model) (shifted a c) c x.below y x (over y x) r q
    (record {
      verdicts = verdict_seen a x.blocks s model.kind c ok.0 ok.1 ok.2;
      same = λ d. ap (λ z. over z x) d;
      dones = λ d. ap (part_state a x.blocks) d ∙ done_seen a x.blocks s c ok.1;
      stops = stopped_seen a x.blocks s c (model.meaning y) ok.1;
      did = λ d. (d, refl);
      lost = λ d. (d, refl);
    })
    p (subst (λ d. Obeys model d x.below r y) to h)
  where
    ok_same : {m n : BlockNumber} → ◌≡◌ {A = Result BlockNumber FlashFault} (Ok m) (Ok n) → m ≡ n
    ok_same d = cc
