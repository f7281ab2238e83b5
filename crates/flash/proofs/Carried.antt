-- A command of a flash that stands over another one is a command of that one: what the flash below obeys, the flash above obeys.
use Rattle.std.proofs.Common.{◌≡◌, ℕ, ◌<◌, true, Ok, Err, Result, ap, ◌∙◌, inl, inr, arith}
use Rattle.std.proofs.lemmas.Bool.Decides.{nat_tests}
use Rattle.flash.specs.declared.fault.FlashFault.{FlashFault}
use Rattle.flash.specs.Faults.{fault, raised}
use Rattle.flash.specs.State.{State}
use Rattle.flash.specs.Commands.{Command, block_of, word_of, allowed, verdict, done, Stopped}
use Rattle.flash.specs.Rules.{Model, Done, Lost, Obeys}

-- states with equal parts are equal
pub same_state : (s t : State) → s.count ≡ t.count → s.power ≡ t.power → ((b w : ℕ) → s.word b w ≡ t.word b w) → s ≡ t
same_state s t n p h = λ i. record { count = n i; power = p i; word = λ b w. h b w i }

-- what lies behind a place that is not refused
pub allowed_ok : {X : Type 0} (k : ℕ) (s : State) (b w : ℕ) (rest : Result X FlashFault) (x : X) → allowed k s b w rest ≡ Ok x
    → (s.power ≡ true) × (b < s.count) × (w < 16) × (rest ≡ Ok x)
allowed_ok k s b w rest x h = (grind (arith, nat_tests), grind (arith, nat_tests), grind (arith, nat_tests), grind (arith, nat_tests))

-- c takes the flash below from x to y, and c' the flash above from u to v: what is to be shown of the two
pub record Stands {G U : Type 0} (below : Model G) (above : Model U) (c c' : Command) (x y : G) (u v : U) : Type 0 where
  pub verdicts : verdict above.kind c' (above.meaning u) ≡ raised above.kind (block_of c') (word_of c') (verdict below.kind c (below.meaning x))
  pub same : y ≡ x → v ≡ u
  pub dones : below.meaning y ≡ done c (below.meaning x) → above.meaning v ≡ done c' (above.meaning u)
  pub stops : Stopped c (below.meaning x) (below.meaning y) → Stopped c' (above.meaning u) (above.meaning v)
  pub did : Done below c x y → above.did c' u v
  pub lost : Lost below c x y → above.lost c' u v

-- then what the flash below obeys, the flash above obeys
pub carried : {G U : Type 0} (below : Model G) (above : Model U) (c c' : Command) (x y : G) (u v : U) (r q : Result (Unit {0}) FlashFault)
    → Stands below above c c' x y u v → q ≡ raised above.kind (block_of c') (word_of c') r → Obeys below c x r y → Obeys above c' u q v
carried below above c c' x y u v (Ok _) q s e h =
    rw e (s.verdicts ∙ ap (raised above.kind (block_of c') (word_of c')) h.0, s.dones h.1, s.did h)
carried below above c c' x y u v (Err f) q s e (inl refused) =
    rw e (inl (s.verdicts ∙ ap (raised above.kind (block_of c') (word_of c')) refused.0, s.same refused.1))
carried below above c c' x y u v (Err f) q s e (inr h) =
    rw e (inr (
      ap (λ d. fault d.cause above.kind (block_of c') (word_of c')) h.0,
      (s.verdicts ∙ ap (raised above.kind (block_of c') (word_of c')) h.1.0, s.stops h.1.1, s.lost h.1),
    ))
