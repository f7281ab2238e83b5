-- None at the start; one number on.
use Rattle.survey.proofs.Walks.{member_none}
use Rattle.choice.proofs.group.grouping.first_blocks.Goals as goal

pub loop-n-init : goal.loop-n-init
loop-n-init c = λ b l. member_none c.new-firsts.result b c.new-firsts.ensures
