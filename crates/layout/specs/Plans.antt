-- What a plan means: the sizes of its numbers, which stand at the front of a table of 64.
--     sizes_of plan      the size of each data number
use Rattle.std.specs.Prelude.{take}
use Rattle.layout.specs.declared.plan.Plan.{Plan}
use Rattle.layout.specs.Sizes.{Sizes}

-- the front of the table that a plan holds
abbrev pub sizes_of : Plan → Sizes
sizes_of plan = take plan.count plan.sizes
