-- One entry on, and all 256.
use Rattle.std.proofs.Common.{◌≡◌, ap, ◌∙◌, arith}
use Rattle.records.specs.Entries.{tally}
use Rattle.records.proofs.Tallies.{tally_fits}
use Rattle.records.proofs.table.Survey.counts.Goals as goal

pub with-counts-requires : goal.with-counts-requires
with-counts-requires c = tally_fits c.args.self.now.entries c.loop-entry.entry-index _ (omega arith) c.loop-entry.invariant

pub returns : goal.returns
returns c = let all : c.loop-entry.entry-index ≡ 256 = omega arith in c.loop-entry.invariant ∙ ap (tally c.args.self.now.entries) all
