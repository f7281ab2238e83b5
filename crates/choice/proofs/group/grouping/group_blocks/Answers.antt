-- Each block has its group.
use Rattle.std.proofs.Common.{rules, arith, ◌∙◌, ap}
use Rattle.layout.specs.Plans.{sizes_of}
use Rattle.survey.specs.Sets.{member}
use Rattle.records.specs.Entries.{entry_in}
use Rattle.choice.specs.Tables.{grouped}
use Rattle.choice.proofs.Groupings.{made, grouped_all}
use Rattle.choice.proofs.group.grouping.group_blocks.Goals as goal

pub returns : goal.returns
returns c =
    let x = c.args.seen.now in
    grouped_all x (sizes_of c.args.plan.now) (record { entries = c.from_fn.result }) (λ k l.
    made _ (λ b. grouped (entry_in x.survey b) (member c.first_blocks-firsts.result.marks b)) _ 256 (λ b y q h called. (search rules, search rules)) c.from_fn.result 0 256 (omega arith) c.from_fn.ensures.items.each k _ (omega arith) l
    ∙ ap (grouped (entry_in x.survey k)) (c.first_blocks-firsts.ensures k l))
