-- Which blocks a call takes, of a flash of so many blocks with the words m, under a plan.
--     free_blocks count m p k    the first k free blocks in the round: those that a write of k blocks takes
--     erasable count m p         the first spent or half-erased block in the round: the one that an erase clears
--     group_of s first           the group of a block with state s, which is the first block of a current record or not
--     format_order count m p     all blocks, in the order in which a format clears them
use Rattle.std.specs.Prelude.{ℕ, Bool, true, false, List, [], ◌∷◌, ◌++◌, take, Some, None, filter, Option, ◌==◌}
use Rattle.std.specs.List.{range_with_len}
use Rattle.flash.specs.State.{Memory}
use Rattle.layout.specs.declared.state.BlockState.{BlockState}
use Rattle.layout.specs.declared.state.BlockState.TheVariants.{Live, Free, HalfErased, Spent}
use Rattle.layout.specs.Sizes.{Sizes, numbers}
use Rattle.layout.specs.Records.{current, round}
use Rattle.layout.specs.States.{some_below, state, of_state}
use Rattle.choice.specs.declared.group.Group.{Group}
use Rattle.choice.specs.declared.group.Group.TheVariants as group

-- free blocks in the round, the first of them for the record's first block
unfoldable pub free_blocks : ℕ → Memory → Sizes → ℕ → List ℕ
free_blocks count m p k = take k (of_state count m p Free (round count m p))

-- a spent or half-erased block is of no use until it is cleared
abbrev pub useless : BlockState → Bool
useless HalfErased = true
useless Free = false
useless Live = false
useless Spent = true

-- the first of a list, if there is one
abbrev pub first_of : List ℕ → Option ℕ
first_of [] = None
first_of (b ∷ bs) = Some b

-- the first useless block in the round
unfoldable pub erasable : ℕ → Memory → Sizes → Option ℕ
erasable count m p = first_of (filter (λ b. useless (state count m p b)) (round count m p))

-- half erased; free or spent; live and the first block of its record; live and a following block
abbrev pub group_of : BlockState → Bool → Group
group_of HalfErased first = group.HalfErased
group_of Free first = group.NotLive
group_of Spent first = group.NotLive
group_of Live true = group.LiveFirst
group_of Live false = group.LiveFollowing

-- whether block b is the first block of a record, if there is one
abbrev pub begins : Option ℕ → ℕ → Bool
begins None b = false
begins (Some c) b = c == b

-- whether block b is the first block of the current record of some number
unfoldable pub is_first : ℕ → Memory → Sizes → ℕ → Bool
is_first count m p b = some_below (λ n. begins (current count m p n) b) (numbers p)

-- a number for each group
abbrev pub group_number : Group → ℕ
group_number group.HalfErased = 0
group_number group.NotLive = 1
group_number group.LiveFirst = 2
group_number group.LiveFollowing = 3

-- whether two groups are the same
abbrev pub same_group : Group → Group → Bool
same_group g h = group_number g == group_number h

-- the blocks of a group, ascending
unfoldable pub in_group : ℕ → Memory → Sizes → Group → List ℕ
in_group count m p g = filter (λ b. same_group (group_of (state count m p b) (is_first count m p b)) g) (range_with_len 0 count)

-- the blocks of some groups, one group after another
abbrev pub in_groups : ℕ → Memory → Sizes → List Group → List ℕ
in_groups count m p [] = []
in_groups count m p (g ∷ gs) = in_group count m p g ++ in_groups count m p gs

-- what is live goes last, and the first blocks of records before what they lead to: so no older value can return on the way
abbrev pub group_order : List Group
group_order = group.HalfErased ∷ (group.NotLive ∷ (group.LiveFirst ∷ (group.LiveFollowing ∷ [])))

-- every block is in one group
unfoldable pub format_order : ℕ → Memory → Sizes → List ℕ
format_order count m p = in_groups count m p group_order
