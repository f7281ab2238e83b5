-- The blocks of a table of groups.
--     has_group t g b        whether block b is in the group g
--     of_group t g n         the blocks of the group g among the first n, ascending
--     of_groups t gs n       the blocks of some groups, one group after another
use Rattle.std.specs.Prelude.{ℕ, Bool, false, List, [], ◌∷◌, ◌++◌, Some, None, filter, Option}
use Rattle.std.specs.List.{range_with_len}
use Rattle.choice.specs.declared.group.Group.{Group}
use Rattle.choice.specs.declared.group.Groups.{Groups}
use Rattle.choice.specs.Choosing.{same_group}
use Rattle.choice.specs.Tables.{group_in}

-- no group is none of them
abbrev pub is_group : Option Group → Group → Bool
is_group None g = false
is_group (Some h) g = same_group h g

-- by its entry
abbrev pub has_group : Groups → Group → ℕ → Bool
has_group t g b = is_group (group_in t b) g

-- those that have it
abbrev pub of_group : Groups → Group → ℕ → List ℕ
of_group t g n = filter (has_group t g) (range_with_len 0 n)

-- in the order of the groups
abbrev pub of_groups : Groups → List Group → ℕ → List ℕ
of_groups t [] n = []
of_groups t (g ∷ gs) n = of_group t g n ++ of_groups t gs n
