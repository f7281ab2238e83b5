-- A fold over the plan's numbers.
use Rattle.std.proofs.Common.{◌≡◌, ℕ, List, ◌∷◌, [], Option, None, rules, sym, refl, ap, ◌∙◌, arith}
use Rattle.std.specs.List.{fold, range_with_len}
use Rattle.std.proofs.lemmas.Fn.{fold_over}
use Rattle.std.proofs.iter.Yields.{nat_range_steps}
use Rattle.std.proofs.lemmas.Iterator.{YieldsList-from_range}
use Rattle.std.proofs.lemmas.List.Sums.{fold-append}
use Rattle.layout.specs.Sizes.{numbers}
use Rattle.layout.specs.Plans.{sizes_of}
use Rattle.records.specs.declared.head.Head.{Head}
use Rattle.records.specs.Heads.{head_in}
use Rattle.survey.specs.Newest.{newer_head}
use Rattle.survey.proofs.Newer.{newest_folds}
use Rattle.survey.proofs.newest.newest.Goals as goal

pub returns : goal.returns
returns c =
    let t = c.args.heads.now in
    let n = numbers (sizes_of c.args.plan.now) in
    let step : Option Head → ℕ → Option Head = λ o k. newer_head o (head_in t k) in
    fold_over nat_range_steps (λ x. x) _ (λ (ns : List ℕ) (o : Option Head). o ≡ fold step None ns) _
    (λ ns o k r f' h e. (
      (let z : r ≡ step o k = search rules in z ∙ ap (λ (o : Option Head). step o k) h ∙ sym (fold-append step None ns (k ∷ []))),
      search rules,
    ))
    (record { start = 0; end = c.count.result }) (range_with_len 0 n) None c.fold.result
    (YieldsList-from_range 0 n n (ap (λ (i : ℕ). record { start = 0; end = i }) c.count.ensures.count) (omega arith)).runs
    refl c.fold.ensures.ran
    ∙ newest_folds t n
