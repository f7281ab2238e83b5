-- Sets of blocks, as a table of marks by block.
--     member ms b        whether the set with the marks ms has block b
--     inserted ms b      the marks with that of block b set
use Rattle.std.specs.Prelude.{ℕ, Bool, true, false, cond, List, nat_lt, slice_index_or, slice_set}

-- the table has 256
abbrev pub member : List Bool → ℕ → Bool
member ms b = cond (nat_lt b 256) (slice_index_or ms b false) false

-- no other mark changes, and none where there is no such mark
abbrev pub inserted : List Bool → ℕ → List Bool
inserted ms b = cond (nat_lt b 256) (slice_set ms b true) ms
