-- The counts are those of the examples, and the examples hold.
use Rattle.std.proofs.Common.{◌∙◌}
use Rattle.std.proofs.lemmas.Bool.{and_from, eq-eqb}
use Rattle.examples.proofs.Computed.{of_1, of_41, of_42, of_1024, worked}
use Rattle.examples.proofs.worked_examples.Goals as goal

pub returns : goal.returns
returns c =
    record {
      answer =
          and_from _ _ (and_from _ _ (and_from _ _
          (eq-eqb _ 4 (c.command_count.ensures.count ∙ of_1))
          (eq-eqb _ 14 (c.command_count-2.ensures.count ∙ of_41)))
          (eq-eqb _ 15 (c.command_count-3.ensures.count ∙ of_42)))
          (eq-eqb _ 274 (c.command_count-4.ensures.count ∙ of_1024));
      examples = worked;
    }
