-- What a word reads as, beside what it was given.
--     reading given found    blank, as given, or other than given
use Rattle.std.specs.Prelude.{ℕ, cond, Some, None, Option, ◌==◌}
use Rattle.rehearse.specs.declared.table.Reading.{Reading}
use Rattle.rehearse.specs.declared.table.Reading.TheVariants.{Blank, AsGiven, Other}

-- a written word that was given nothing is other than given
abbrev pub reading : Option ℕ → Option ℕ → Reading
reading given None = Blank
reading None (Some v) = Other
reading (Some g) (Some v) = cond (g == v) AsGiven Other
