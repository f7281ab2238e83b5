-- What the fields of a first block tell.
use Rattle.std.proofs.Common.{◌≡◌, ℕ, zero, suc, ◌≤◌, Bool, true, false, ◌&&◌, Some, None, sym, ap, arith}
use Rattle.std.proofs.lemmas.Bool.Decides.{nat_tests}
use Rattle.std.proofs.lemmas.Option.{cond_some}
use Rattle.flash.specs.State.{Words}
use Rattle.layout.specs.Sizes.{Sizes, size, head_words, first_share}
use Rattle.layout.specs.Fields.{kind_of, number, serial, code, written, all_from}
use Rattle.layout.specs.Sound.{candidate, coded}
use Rattle.layout.specs.declared.block.FirstFields.{FirstFields}
use Rattle.layout.specs.Reads.{the_fields, fields_of}

pub fields_told : (m : Words) (x : FirstFields) → Some x ≡ fields_of m → (x.kind ≡ kind_of m) × (x.number.0 ≡ number m) × (x.serial ≡ serial m) × (x.code ≡ code m)
fields_told m x h =
    let e = sym (cond_some (written (m 0) && written (m 1) && written (m 2)) (the_fields m) x (sym h)).1 in
    (ap (λ (y : FirstFields). y.kind) e, ap (λ (y : FirstFields). y.number.0) e, ap (λ (y : FirstFields). y.serial) e, ap (λ (y : FirstFields). y.code) e)

-- the first three of more tests
three : (t : ℕ → Bool) (n : ℕ) → 3 ≤ n → all_from t 0 n ≡ true → (t 0 && t 1 && t 2) ≡ true
three t (suc (suc (suc n))) l h = grind (arith, nat_tests)
three t zero l h = absurd (omega arith)
three t (suc zero) l h = absurd (omega arith)
three t (suc (suc zero)) l h = absurd (omega arith)

pub not_first : (p : Sizes) (n : ℕ) (m : Words) → None ≡ fields_of m → false ≡ (candidate p n m && coded m)
unfolding candidate head_words first_share
not_first p n m h =
    let first = three (λ w. written (m w)) (head_words (size p n)) (omega arith) in
    grind (arith, nat_tests)
