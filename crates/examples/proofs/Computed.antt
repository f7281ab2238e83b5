-- The examples, computed from the definitions.
use Rattle.std.proofs.Common.{◌≡◌, ℕ, [], ◌∷◌, refl, subst}
use Rattle.layout.specs.Sizes.{blocks_of, followers, first_share, share, head_words, data_words}
use Rattle.layout.specs.Code.{crc, crc_from, crc_byte, crc_bits, crc_bit}
use Rattle.layout.specs.States.{clean}
use Rattle.writing.specs.Writing.{commands_of}
use Rattle.writing.specs.Law.{Counts}
use Rattle.writing.proofs.Counted.{record_counts}
use Rattle.examples.specs.Worked.{Worked}

-- a computed count is that of every list
counts : (z r : ℕ) → commands_of z ≡ r → Counts z r
counts z r e = subst (λ (k : ℕ). Counts z k) e (record_counts z)

pub of_1 : commands_of 1 ≡ 4
unfolding commands_of followers first_share share head_words data_words
of_1 = refl

pub of_41 : commands_of 41 ≡ 14
unfolding commands_of followers first_share share head_words data_words
of_41 = refl

pub of_42 : commands_of 42 ≡ 15
unfolding commands_of followers first_share share head_words data_words
of_42 = refl

pub of_1024 : commands_of 1024 ≡ 274
unfolding commands_of followers first_share share head_words data_words
of_1024 = refl

digits : crc (49 ∷ 50 ∷ 51 ∷ 52 ∷ 53 ∷ 54 ∷ 55 ∷ 56 ∷ 57 ∷ []) ≡ 0x29B1
unfolding crc crc_from crc_byte crc_bits crc_bit
digits = refl

pub worked : Worked
unfolding blocks_of followers clean
worked =
    record {
      blocks_of_41 = refl;
      blocks_of_42 = refl;
      blocks_of_94 = refl;
      blocks_of_95 = refl;
      blocks_of_1024 = refl;
      commands_of_1 = counts 1 4 of_1;
      commands_of_41 = counts 41 14 of_41;
      commands_of_42 = counts 42 15 of_42;
      commands_of_1024 = counts 1024 274 of_1024;
      digits_coded = digits;
      nothing_half_erased = λ l. refl;
      ended_free = λ l. refl;
      begun_half_erased = λ l. refl;
    }
