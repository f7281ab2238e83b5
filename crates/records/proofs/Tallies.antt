-- Counting the entries of a table one by one.
use Rattle.std.proofs.Common.{◌≡◌, ℕ, zero, suc, ◌<◌, List, get_or, Some, None, Option, sym, subst, arith}
use Rattle.layout.specs.declared.state.BlockState.{BlockState}
use Rattle.layout.specs.declared.state.BlockState.TheVariants.{Live, Free, HalfErased, Spent}
use Rattle.records.specs.declared.table.Entry.{Entry}
use Rattle.records.specs.declared.table.Counts.{Counts}
use Rattle.records.specs.Entries.{entry, counted_with, tally, Few}

with_few : (n : ℕ) (c : Counts) (o : Option BlockState) → Few n c → Few (suc n) (counted_with c o)
with_few n c None h = (omega (arith, h.0), omega (arith, h.1), omega (arith, h.2), omega (arith, h.3))
with_few n c (Some Live) h = (omega (arith, h.0), omega (arith, h.1), omega (arith, h.2), omega (arith, h.3))
with_few n c (Some Free) h = (omega (arith, h.0), omega (arith, h.1), omega (arith, h.2), omega (arith, h.3))
with_few n c (Some HalfErased) h = (omega (arith, h.0), omega (arith, h.1), omega (arith, h.2), omega (arith, h.3))
with_few n c (Some Spent) h = (omega (arith, h.0), omega (arith, h.1), omega (arith, h.2), omega (arith, h.3))

tally_few : (es : List Entry) (n : ℕ) → Few (suc n) (tally es n)
tally_few es zero = (omega arith, omega arith, omega arith, omega arith)
tally_few es (suc n) = with_few (suc n) (tally es n) (get_or es n (entry None)).state (tally_few es n)

pub tally_fits : (es : List Entry) (n : ℕ) (c : Counts) → n < 256 → c ≡ tally es n → Few 256 c
tally_fits es n c l e = let h = tally_few es n in subst (λ (x : Counts). Few 256 x) (sym e) (omega (arith, h.0), omega (arith, h.1), omega (arith, h.2), omega (arith, h.3))
