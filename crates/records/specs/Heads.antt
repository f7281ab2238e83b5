-- The heads of current records, as a table by number.
--     headed m o         the head of a record, by its first block
--     owner count m p b  the sound record whose first block is b, if any
--     head_in t n        the entry of number n
--     entered es o       the table with one more record entered
use Rattle.std.specs.Prelude.{ℕ, cond, List, Some, None, Option, nat_lt, slice_index_or, slice_set}
use Rattle.flash.specs.State.{Memory}
use Rattle.layout.specs.Sizes.{Sizes}
use Rattle.layout.specs.Fields.{number, serial}
use Rattle.layout.specs.Sound.{sound}
use Rattle.records.specs.declared.head.Head.{Head}
use Rattle.records.specs.declared.head.Owned.{Owned}
use Rattle.records.specs.declared.head.Heads.{Heads}

-- the head of a record whose first block is b
abbrev pub head_at : Memory → ℕ → Head
head_at m b = record { serial = serial (m b); block = record { 0 = b } }

-- none where there is no record
abbrev pub headed : Memory → Option ℕ → Option Head
headed m None = None
headed m (Some b) = Some (head_at m b)

-- a block is asked only about its own number
unfoldable pub owner : ℕ → Memory → Sizes → ℕ → Option Owned
owner count m p b = cond (sound count m p (number (m b)) b) (Some (record { number = record { 0 = number (m b) }; head = head_at m b })) None

-- the entry of a number; the table has 64
abbrev pub head_in : Heads → ℕ → Option Head
head_in t n = cond (nat_lt n 64) (slice_index_or t.entries n None) None

-- the higher serial, ties to the one that stands there
abbrev pub preferred : Option Head → Head → Option Head
preferred None h = Some h
preferred (Some o) h = cond (nat_lt o.serial h.serial) (Some h) (Some o)

-- a record is entered under its own number
abbrev pub entered : List (Option Head) → Option Owned → List (Option Head)
entered es None = es
entered es (Some o) = slice_set es o.number.0 (preferred (slice_index_or es o.number.0 None) o.head)
