-- Four bytes that are copied into a memory are set one after another.
use Rattle.std.proofs.Common.{◌≡◌, ℕ, ◌+◌, ◌/◌, ◌%◌, ◌≤◌, List, [], ◌∷◌, length, set, arith}
use Rattle.std.proofs.Math.Seq.{paste}
use Rattle.std.proofs.lemmas.List.Edits.{paste_none, paste_more}
use Rattle.formats.specs.Bytes.{put_four}

module _ (m : List ℕ) (i a b c d : ℕ) (h : i + 4 ≤ length m) where
  abbrev s : List ℕ
  s = a ∷ b ∷ c ∷ d ∷ []

  pub fours_pasted : paste m i s 4 ≡ set (set (set (set m i a) (i + 1) b) (i + 2) c) (i + 3) d
  fours_pasted =
      let z : i + 0 ≡ i = omega arith in
      let p₀ = paste_none m i s in
      let p₁ = paste_more m i s 0 0 (omega arith) (omega arith) in
      let p₂ = paste_more m i s 1 0 (omega arith) (omega arith) in
      let p₃ = paste_more m i s 2 0 (omega arith) (omega arith) in
      let p₄ = paste_more m i s 3 0 (omega arith) (omega arith) in
      cc

pub four_pasted : (m : List ℕ) (i v : ℕ) → i + 4 ≤ length m → paste m i (v % 256 ∷ v / 256 % 256 ∷ v / 65536 % 256 ∷ v / 16777216 % 256 ∷ []) 4 ≡ put_four m i v
four_pasted m i v h = fours_pasted m i _ _ _ _ h
