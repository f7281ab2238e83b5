-- The part stands behind the bytes that were held.
use Rattle.std.proofs.Common.{ℕ, ◌+◌, ◌-◌, List, ◌++◌, length, ap, ◌∙◌, arith, rules}
use Rattle.std.proofs.lemmas.Slice.{take-put_mid}
use Rattle.writing.specs.Filled.{held}
use Rattle.writing.proofs.bytes.BlockBytes.extend.Goals as goal

pub returns : goal.returns
returns c =
    let x = c.args.self.now in
    let to = x.len + length c.args.part.now in
    record {
      held =
          take-put_mid x.len (to - x.len) x.bytes c.copy_from_slice.new.self to (omega (arith, ap length c.copy_from_slice.ensures.after)) (search rules)
          ∙ ap (λ (l : List ℕ). held x ++ l) c.copy_from_slice.ensures.after;
      len = search rules;
    }
