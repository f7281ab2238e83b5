-- The newest record of a table of heads.
--     newer_head a b     the newer of two records, by their heads
--     newest_in t n      the newest of the records of the numbers below n
use Rattle.std.specs.Prelude.{ℕ, zero, suc, cond, ◌&&◌, ◌||◌, Some, None, Option, ◌==◌, nat_lt}
use Rattle.records.specs.declared.head.Head.{Head}
use Rattle.records.specs.declared.head.Heads.{Heads}
use Rattle.records.specs.Heads.{head_in}

-- the higher serial, ties to the lower block
abbrev pub newer_head : Option Head → Option Head → Option Head
newer_head None o = o
newer_head (Some h) None = Some h
newer_head (Some h) (Some k) =
    cond (nat_lt h.serial k.serial || (h.serial == k.serial && nat_lt k.block.0 h.block.0)) (Some k) (Some h)

-- of the entries below n
abbrev pub newest_in : Heads → ℕ → Option Head
newest_in t zero = None
newest_in t (suc n) = newer_head (newest_in t n) (head_in t n)
