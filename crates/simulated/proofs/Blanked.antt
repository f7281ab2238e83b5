-- The clauses of `blanked`, as a loop over the words of a block meets them.
use Rattle.std.proofs.Common.{◌≡◌, ℕ, suc, ◌+◌, cond, List, None, refl, ap, ◌∙◌, add-one}
use Rattle.formats.specs.Bytes.{bit}
use Rattle.formats.specs.Forms.{Form}
use Rattle.simulated.specs.Rehearsed.{blanked}

pub blanked_none : (form : Form) (m : List ℕ) (b marks : ℕ) → blanked form m b marks 0 ≡ m
unfolding blanked
blanked_none form m b marks = refl

pub blanked_suc : (form : Form) (m : List ℕ) (b marks w : ℕ)
    → blanked form m b marks (suc w) ≡ cond (bit marks w) (form.put_word (blanked form m b marks w) b w None) (blanked form m b marks w)
unfolding blanked
blanked_suc form m b marks w = refl

pub blanked_more : (form : Form) (m : List ℕ) (b marks w : ℕ)
    → blanked form m b marks (w + 1) ≡ cond (bit marks w) (form.put_word (blanked form m b marks w) b w None) (blanked form m b marks w)
blanked_more form m b marks w = ap (blanked form m b marks) (add-one w) ∙ blanked_suc form m b marks w
