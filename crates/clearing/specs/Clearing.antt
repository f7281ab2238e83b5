-- The commands that make a block free. Words 14 and 15 of a block are its erase marks: erase start and erase end.
--     mark               the four bytes AA of a mark
--     mending v b        erase block b, and program v as its erase end
--     clearing v b m     the same, with erase start programmed first if the words m have it blank
--     freed v b s        the state after either was done
--     Others b s t       no block but b differs in s and t
use Rattle.std.specs.Prelude.{◌≡◌, ℕ, List, [], ◌∷◌, ◌++◌, Some, None, Option, ◌≢◌}
use Rattle.flash.specs.State.{State, Memory, put, wipe, powered}
use Rattle.flash.specs.Commands.{Command, program, erase}

-- the four bytes of a mark
abbrev pub mark : ℕ
mark = 0xAAAA_AAAA

-- the two commands that end every erase
abbrev pub mending : ℕ → ℕ → List Command
mending v b = erase b ∷ (program b 15 v ∷ [])

-- erase start is programmed only where it is blank
abbrev pub starting : ℕ → Option ℕ → List Command
starting b None = program b 14 mark ∷ []
starting b (Some _) = []

-- a clearing is a mending that says first that it begins
abbrev pub clearing : ℕ → ℕ → Memory → List Command
clearing v b m = starting b (m b 14) ++ mending v b

-- block b is blank but for its erase end
abbrev pub freed : ℕ → ℕ → State → State
freed v b s = powered s.power s (put (wipe s.word b) b 15 (Some v))

-- every other block is as it was
abbrev pub Others : ℕ → State → State → Type 0
Others b s t = (c w : ℕ) → (b ≢ c) → t.word c w ≡ s.word c w
