-- Kind 4, a pair: the blocks of one flash followed by those of another, with power when both have it.
--     pair_count s t         how many blocks the pair has; none where there would be more than 256
--     pair_state s t         what the pair means, over flashes that mean s and t
--     side n b               the flash that has a block of the pair, and which of its blocks that is
--     lowered n c            the command to the second flash, behind n blocks of the first
--     Sided n P Q c x y      a command did P to the first flash or Q to the second, and nothing to the other
--     joined first second    what a pair says of itself
--     pair_check s t         whether two flashes make a pair
use Rattle.std.specs.Prelude.{◌≡◌, ℕ, ◌+◌, ◌-◌, cond, ◌&&◌, None, Ok, Err, MatchBool, Result, nat_le, nat_lt}
use Rattle.flash.specs.declared.fault.Cause.TheVariants.{Making}
use Rattle.flash.specs.declared.fault.FlashFault.{FlashFault}
use Rattle.flash.specs.Faults.{fault}
use Rattle.flash.specs.State.{State}
use Rattle.flash.specs.Commands.{Command, program, erase, block_of}
use Rattle.flash.specs.Rules.{Model, Done, Lost, Returned}
use Rattle.pair.specs.declared.Pair.{Pair}
use Rattle.pair.specs.declared.Side.{Side}
use Rattle.pair.specs.declared.Side.TheVariants.{First, Second}

-- at most 256 blocks in all
abbrev pub pair_count : State → State → ℕ
pair_count s t = cond (nat_le (s.count + t.count) 256) (s.count + t.count) 0

-- the blocks of the first flash, then those of the second
abbrev pub pair_state : State → State → State
pair_state s t = record {
  count = pair_count s t;
  power = s.power && t.power;
  word = λ b w. cond (nat_lt b (pair_count s t)) (cond (nat_lt b s.count) (s.word b w) (t.word (b - s.count) w)) None;
}

-- which flash has block b, behind n blocks of the first, and which of its blocks that is
abbrev pub side : ℕ → ℕ → Side
side n b = cond (nat_lt b n) (First (record { 0 = b })) (Second (record { 0 = b - n }))

-- the same command, at the block of the second flash
abbrev pub lowered : ℕ → Command → Command
lowered n (program b w v) = program (b - n) w v
lowered n (erase b) = erase (b - n)

-- by the command's block
abbrev pub Sided : {A B : Type 0} → ℕ → (Command → A → A → Type 0) → (Command → B → B → Type 0) → Command → Pair A B → Pair A B → Type 0
Sided n P Q c x y =
    MatchBool (nat_lt (block_of c) n) (P c x.first y.first × (y.second ≡ x.second)) (Q (lowered n c) x.second y.second × (y.first ≡ x.first))

-- a command goes to one flash and leaves the other equal to what it was; a return of power goes to both
abbrev pub joined : {A B : Type 0} → Model A → Model B → Model (Pair A B)
joined first second = record {
  kind = 4;
  meaning = λ x. pair_state (first.meaning x.first) (second.meaning x.second);
  did = λ c x y. Sided (first.meaning x.first).count (Done first) (Done second) c x y;
  lost = λ c x y. Sided (first.meaning x.first).count (Lost first) (Lost second) c x y;
  returned = λ rehearsal x y. Returned first rehearsal x.first y.first × Returned second rehearsal x.second y.second;
}

-- a pair above 256 blocks is refused
abbrev pub pair_check : State → State → Result (Unit {0}) FlashFault
pair_check s t = cond (nat_le (s.count + t.count) 256) (Ok tt) (Err (fault Making 4 0 0))
