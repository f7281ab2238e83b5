-- Bars.
--     open_bar           the bar that forbids nothing
use Rattle.std.specs.Prelude.{false}
use Rattle.bar.specs.declared.Bar.{Bar}

-- neither mark is set
abbrev pub open_bar : Bar
open_bar = record { reads = false; changes = false }
