-- What a read answers that nothing refuses before it looks for the value.
use Rattle.std.proofs.Common.{◌≡◌, ℕ, ◌<◌, ◌≤◌, Bool, true, false, ltb, leb, List, ◌++◌, length, drop, Some, None, Ok, Err, MatchBool, Option, sym, refl, ap, ◌∙◌, subst, arith}
use Rattle.std.proofs.lemmas.Bool.{both_ways, lt-ltb, le-ltb, le-leb, cond-true}
use Rattle.flash.specs.State.{State}
use Rattle.layout.specs.Sizes.{Sizes, numbers, size}
use Rattle.layout.specs.Sound.{sound}
use Rattle.layout.specs.Records.{current, data_at, value}
use Rattle.records.specs.declared.head.Head.{Head}
use Rattle.records.specs.Heads.{headed}
use Rattle.records.proofs.Headed.{head_sound}
use Rattle.values.specs.declared.CopyFault.{CopyFault}
use Rattle.values.specs.declared.CopyFault.TheVariants.{NoValue as Nothing, TooShort, Flash as OfFlash}
use Rattle.values.specs.Copying.{Copied, Copying, recorded, CopiesData}
use Rattle.values.proofs.Found.{none_valued, head_valued}
use Rattle.values.proofs.Copies.{length_data_at}
use Rattle.bar.specs.declared.Bar.{Bar}
use Rattle.decision.specs.declared.fault.UnitCause.TheVariants.{NoValue}
use Rattle.decision.specs.declared.fault.UnitFault.TheVariants.{Own}
use Rattle.decision.specs.Decisions.{Decision}
use Rattle.decision.specs.Calls.{to_read, found_value, Reads}

module _ (p : Sizes) (n : ℕ) (d : List ℕ) (bar : Bar) (k : ℕ) (s : State)
    (known : n < numbers p) (room : size p n ≤ length d) (unbarred : bar.reads ≡ false) (power : s.power ≡ true) where
  -- it comes to the value
  to_value : to_read p n (length d) bar k s ≡ found_value (value s.count s.word p n)
  to_value =
      let a : ltb n (numbers p) ≡ true = lt-ltb n (numbers p) known in
      let b : ltb (length d) (size p n) ≡ false = le-ltb (length d) (size p n) room in
      rw (a, b, unbarred, power) refl

  pub reads_none : None ≡ headed s.word (current s.count s.word p n) → Reads (to_read p n (length d) bar k s) d (Err (Own NoValue)) d
  reads_none h =
      subst (λ (e : Decision (List ℕ)). Reads e d (Err (Own NoValue)) d) (sym (to_value ∙ ap found_value (none_valued s.count s.word p n h))) (refl, refl)

  module _ (h : Head) (found : Some h ≡ headed s.word (current s.count s.word p n)) where
    abbrev there : List ℕ
    there = data_at s.word p n h.block.0

    is_there : recorded s.count s.word p n h.block.0 ≡ Some there
    is_there = cond-true (sound s.count s.word p n h.block.0) (Some there) None (head_sound s.count s.word p n h found)

    -- the buffer is long enough, so the value was copied
    copied : (x : Copied) (o : List ℕ) → Copying (recorded s.count s.word p n h.block.0) (size p n) d x o → (x ≡ Ok tt) × (o ≡ there ++ drop (size p n) d)
    copied x o c =
        let t : leb (size p n) (length d) ≡ true = le-leb (size p n) (length d) room in
        subst (λ (b : Bool). MatchBool b ((x ≡ Ok tt) × (o ≡ there ++ drop (size p n) d)) ((x ≡ Err TooShort) × (o ≡ d))) t
        (subst (λ (v : Option (List ℕ)). Copying v (size p n) d x o) is_there c)

    pub reads_whole : (z : ℕ) (o : List ℕ) → z ≡ size p n → Copying (recorded s.count s.word p n h.block.0) (size p n) d (Ok tt) o
        → Reads (to_read p n (length d) bar k s) d (Ok z) o
    reads_whole z o e c =
        let l : length there ≡ size p n = length_data_at s.word p n h.block.0 in
        subst (λ (q : Decision (List ℕ)). Reads q d (Ok z) o) (sym (to_value ∙ ap found_value (head_valued s.count s.word p n h found ∙ is_there)))
        (ap Ok (e ∙ sym l), (copied (Ok tt) o c).1 ∙ ap (λ (i : ℕ). there ++ drop i d) (sym l))

    -- and nothing refuses it
    pub not_refused : (e : CopyFault) (o : List ℕ) → CopiesData k s (recorded s.count s.word p n h.block.0) (size p n) d (Err e) o → ⊥
    not_refused Nothing o c = let e = (copied (Err Nothing) o c.1).0 in let z : ◌≡◌ {A = ℕ} 0 1 = cc in omega arith
    not_refused TooShort o c = let e = (copied (Err TooShort) o c.1).0 in let z : ◌≡◌ {A = ℕ} 0 1 = cc in omega arith
    not_refused (OfFlash f) o c = both_ways s.power c.0 power
