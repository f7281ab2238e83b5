-- The newest record of a table of all current records is the newest record.
use Rattle.std.proofs.Common.{◌≡◌, ℕ, zero, suc, ◌+◌, List, [], ◌∷◌, ◌++◌, Some, None, Option, sym, refl, ap, ◌∙◌, add-one, arith}
use Rattle.std.specs.List.{fold, range_with_len}
use Rattle.std.proofs.lemmas.List.{map-id}
use Rattle.std.proofs.lemmas.List.FromFn.{map-range_with_len_more}
use Rattle.std.proofs.lemmas.List.Sums.{fold-append}
use Rattle.std.proofs.lemmas.Bool.Decides.{nat_tests}
use Rattle.flash.specs.State.{Memory}
use Rattle.layout.specs.Sizes.{Sizes, numbers}
use Rattle.layout.specs.Records.{current, newer, newest_below, newest}
use Rattle.records.specs.declared.head.Head.{Head}
use Rattle.records.specs.declared.head.Heads.{Heads}
use Rattle.records.specs.Heads.{headed, head_in}
use Rattle.records.specs.Tables.{Tabled}
use Rattle.survey.specs.Newest.{newer_head, newest_in}

-- number by number, or over the list of the numbers
pub newest_folds : (t : Heads) (n : ℕ) → fold (λ o k. newer_head o (head_in t k)) None (range_with_len 0 n) ≡ newest_in t n
newest_folds t zero = refl
newest_folds t (suc n) =
    let step : Option Head → ℕ → Option Head = λ o k. newer_head o (head_in t k) in
    ap (fold step None) (ap (range_with_len 0) (sym (add-one n)) ∙ sym (map-id (range_with_len 0 (n + 1))) ∙ map-range_with_len_more (λ k. k) 0 n n (omega arith) ∙ ap (λ (l : List ℕ). l ++ n ∷ []) (map-id (range_with_len 0 n)))
    ∙ fold-append step None (range_with_len 0 n) (n ∷ []) ∙ ap (λ o. newer_head o (head_in t n)) (newest_folds t n)

newer_headed : (m : Memory) (a b : Option ℕ) → newer_head (headed m a) (headed m b) ≡ headed m (newer m a b)
newer_headed m None b = refl
newer_headed m (Some a) None = refl
newer_headed m (Some a) (Some b) = grind (arith, nat_tests)

below : (count : ℕ) (m : Memory) (p : Sizes) (t : Heads) → Tabled count m p t → (k : ℕ) → newest_in t k ≡ headed m (newest_below count m p k)
below count m p t h zero = refl
below count m p t h (suc k) = rw (below count m p t h k, h k) (newer_headed m (newest_below count m p k) (current count m p k))

pub newest_table : (count : ℕ) (m : Memory) (p : Sizes) (t : Heads) → Tabled count m p t → newest_in t (numbers p) ≡ headed m (newest count m p)
unfolding newest
newest_table count m p t h = below count m p t h (numbers p)
