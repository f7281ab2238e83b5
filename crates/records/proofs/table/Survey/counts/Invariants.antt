-- The counts of the entries before the next one.
use Rattle.std.proofs.Common.{◌≡◌}
use Rattle.records.specs.Entries.{tally}
use Rattle.records.proofs.table.Survey.counts.Given as goal

abbrev pub invariant-loop-entry : goal.invariant-loop-entry
invariant-loop-entry l = l.counts ≡ tally l.self.entries l.entry-index
