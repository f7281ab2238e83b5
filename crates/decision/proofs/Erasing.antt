-- What an erase decides, from the block that was found.
use Rattle.std.proofs.Common.{◌≡◌, ℕ, true, false, Some, None, Ok, Option, sym, refl, ap, ◌∙◌, arith}
use Rattle.flash.specs.declared.BlockNumber.{BlockNumber}
use Rattle.flash.specs.State.{State}
use Rattle.clearing.specs.Clearing.{mark, clearing}
use Rattle.clearing.proofs.Freed.{clearing_taken}
use Rattle.layout.specs.Sizes.{Sizes, numbers}
use Rattle.records.specs.declared.head.Head.{Head}
use Rattle.records.specs.Tables.{Tabled}
use Rattle.survey.specs.declared.overview.Overview.{Overview}
use Rattle.survey.specs.Newest.{newest_in}
use Rattle.records.specs.Entries.{entry_in}
use Rattle.survey.specs.Entries.{entry_of}
use Rattle.survey.proofs.Newer.{newest_table}
use Rattle.choice.specs.declared.round.Round.{Round}
use Rattle.choice.specs.declared.round.Purpose.TheVariants.{Erasing}
use Rattle.choice.specs.Choosing.{erasable}
use Rattle.choice.specs.Tables.{numbered, found_in, round_after}
use Rattle.choice.proofs.Tabling.{erasable_tabled, erasable_below}
use Rattle.bar.specs.declared.Bar.{Bar}
use Rattle.decision.specs.declared.fault.UnitCause.TheVariants.{NothingToErase}
use Rattle.decision.specs.declared.fault.UnitFault.TheVariants.{Own}
use Rattle.decision.specs.Decisions.{refuse, Decided}
use Rattle.decision.specs.Calls.{clear_found, to_erase}

-- the number that the code has is the one that was found
numbered_none : (o : Option ℕ) → None ≡ numbered o → o ≡ None
numbered_none None e = refl
numbered_none (Some b) e = absurd (let z : ◌≡◌ {A = ℕ} 0 1 = cc in omega arith)

numbered_some : (o : Option ℕ) (b : BlockNumber) → Some b ≡ numbered o → o ≡ Some b.0
numbered_some None b e = absurd (let z : ◌≡◌ {A = ℕ} 0 1 = cc in omega arith)
numbered_some (Some c) b e = let q : b ≡ record { 0 = c } = cc in ap Some (sym (ap (λ (x : BlockNumber). x.0) q))

module _ (p : Sizes) (bar : Bar) (k : ℕ) (s : State) (unbarred : bar.changes ≡ false) (power : s.power ≡ true) where
  to_found : to_erase p bar k s ≡ clear_found s.word (erasable s.count s.word p)
  to_found = rw (unbarred, power) refl

  -- the round is that of the flash
  module _ (v : Overview) (states : (b : ℕ) → entry_in v.survey b ≡ entry_of s.count s.word p b) (heads : Tabled s.count s.word p v.heads)
      (o : Option Head) (latest : o ≡ newest_in v.heads (numbers p)) (r : Round) (n : ℕ) (goes : r ≡ round_after o n) (counted : n ≡ s.count) where
    is_found : found_in Erasing v.survey r ≡ erasable s.count s.word p
    is_found =
        ap (found_in Erasing v.survey) (goes ∙ ap (round_after o) counted)
        ∙ erasable_tabled s.count s.word p v.survey states o (latest ∙ newest_table s.count s.word p v.heads heads)

    pub erase_none : None ≡ numbered (found_in Erasing v.survey r) → to_erase p bar k s ≡ refuse (Own NothingToErase)
    erase_none e = to_found ∙ ap (clear_found s.word) (sym is_found ∙ numbered_none _ e)

    pub erase_some : (b : BlockNumber) → Some b ≡ numbered (found_in Erasing v.survey r)
        → Decided s (to_erase p bar k s) (λ (b : BlockNumber). clearing mark b.0 s.word) (λ b. b) (Ok b)
    erase_some b e =
        let found : erasable s.count s.word p ≡ Some b.0 = sym is_found ∙ numbered_some _ b e in (
          to_found ∙ ap (clear_found s.word) found,
          power,
          clearing_taken mark b.0 s.count s.word (erasable_below s.count s.word p b.0 found).0,
        )
