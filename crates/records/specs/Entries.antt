-- The state of every block, as a table, and how many blocks there are of each state.
--     entry_in u b           the entry of block b
--     marked_at es b o       the entries with that of block b changed
--     spent_at es b          the entries with that of block b made spent
--     tally es n             how many of the first n entries there are of each state
use Rattle.std.specs.Prelude.{ℕ, zero, suc, ◌+◌, ◌<◌, cond, List, Some, None, Option, nat_lt, slice_index_or, slice_set}
use Rattle.layout.specs.declared.state.BlockState.{BlockState}
use Rattle.layout.specs.declared.state.BlockState.TheVariants.{Live, Free, HalfErased, Spent}
use Rattle.records.specs.declared.table.Entry.{Entry}
use Rattle.records.specs.declared.table.Survey.{Survey}
use Rattle.records.specs.declared.table.Counts.{Counts}

-- an entry with a state, or without one
abbrev pub entry : Option BlockState → Entry
entry o = record { state = o }

-- the table has 256
abbrev pub entry_in : Survey → ℕ → Option BlockState
entry_in u b = cond (nat_lt b 256) (slice_index_or u.entries b (entry None)).state None

-- no other entry changes, and none where there is no such entry
abbrev pub marked_at : List Entry → ℕ → Option BlockState → List Entry
marked_at es b o = cond (nat_lt b 256) (slice_set es b (entry o)) es

-- the entry of a block that holds what nobody needs
abbrev pub spent_at : List Entry → ℕ → List Entry
spent_at es b = marked_at es b (Some Spent)

-- one entry more: one without a state counts nowhere
abbrev pub counted_with : Counts → Option BlockState → Counts
counted_with c None = c
counted_with c (Some Live) = record { live = c.live + 1; free = c.free; half_erased = c.half_erased; spent = c.spent }
counted_with c (Some Free) = record { live = c.live; free = c.free + 1; half_erased = c.half_erased; spent = c.spent }
counted_with c (Some HalfErased) = record { live = c.live; free = c.free; half_erased = c.half_erased + 1; spent = c.spent }
counted_with c (Some Spent) = record { live = c.live; free = c.free; half_erased = c.half_erased; spent = c.spent + 1 }

-- one by one, from the first on
abbrev pub tally : List Entry → ℕ → Counts
tally es zero = record { live = 0; free = 0; half_erased = 0; spent = 0 }
tally es (suc n) = counted_with (tally es n) (slice_index_or es n (entry None)).state

-- each count is below n
abbrev pub Few : ℕ → Counts → Type 0
Few n c = (c.live < n) × (c.free < n) × (c.half_erased < n) × (c.spent < n)
