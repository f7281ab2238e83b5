-- On free blocks, no command of a record is refused.
use Rattle.std.proofs.Common.{◌≡◌, ℕ, zero, suc, ◌+◌, ◌<◌, ◌≤◌, true, eqb, List, [], ◌∷◌, ◌++◌, map, Some, None, sym, refl, ap, ◌∙◌, subst, arith}
use Rattle.std.specs.List.{range_with_len, AllByRecursion}
use Rattle.std.proofs.lemmas.Bool.{or_left, or_right, eq-eqb, both_ways}
use Rattle.flash.specs.State.{Words, Memory, put}
use Rattle.flash.specs.Commands.{Command, program, applied}
use Rattle.flash.specs.Lists.{applied_all, Taken}
use Rattle.clearing.specs.Clearing.{mark}
use Rattle.layout.specs.Sizes.{Sizes, size, head_words, data_words}
use Rattle.layout.specs.States.{holds}
use Rattle.writing.specs.Writing.{word_of, first_bytes, follow_bytes, programs, next_of, follow_commands, first_commands_by_size, record_commands, record_commands_by_size}
use Rattle.writing.specs.Law.{Bare, Distinct, Suits}
use Rattle.writing.proofs.Fill.{words_high, programs_beyond, programs_other, followed_others}
use Rattle.writing.proofs.Written.{head_high, put_word}

-- one list after another
pub taken_then : (count : ℕ) (xs ys : List Command) (m : Memory) → Taken count xs m → Taken count ys (applied_all xs m) → Taken count (xs ++ ys) m
taken_then count [] ys m a b = b
taken_then count (c ∷ xs) ys m a b = (a.0, taken_then count xs ys (applied c m) a.1 b)

-- words that are blank, one after another
words_taken : (count c : ℕ) (l : List ℕ) (k a : ℕ) (m : Memory) → c < count → a + k ≤ 16 → ((w : ℕ) → a ≤ w → w < a + k → m c w ≡ None)
    → Taken count (map (λ w. program c w (word_of l w)) (range_with_len a k)) m
words_taken count c l zero a m lc h e = tt
words_taken count c l (suc k) a m lc h e = (
  (lc, omega arith, e a (omega arith) (omega arith)),
  words_taken count c l k (a + 1) (put m c a (Some (word_of l a))) lc (omega arith)
      (λ w x y. put_word m c a (Some (word_of l a)) c w (omega arith) ∙ e w (omega arith) (omega arith)),
)

-- the following blocks
follow_taken : (count s first : ℕ) (d bs : List ℕ) (j : ℕ) (m : Memory) → Distinct bs → AllByRecursion (λ x. x < count) bs → ((x : ℕ) → holds bs x ≡ true → Bare (m x))
    → Taken count (follow_commands s first d j bs) m
follow_taken count s first d [] j m apart inside free = tt
follow_taken count s first d (c ∷ cs) j m apart inside free =
    taken_then count (programs c l k) (follow_commands s first d (suc j) cs) m
    (words_taken count c l k 0 m inside.0 (omega (arith, words_high s j)) (λ w a b. (free c (or_left (eqb c c) (holds cs c) (eq-eqb c c refl))).0 w (omega (arith, words_high s j))))
    (follow_taken count s first d cs (suc j) (applied_all (programs c l k) m) apart.1 inside.1
    (λ x h. subst Bare (sym (programs_other c l k m x (other x h))) (free x (or_right (eqb c x) (holds cs x) h))))
  where
    l : List ℕ
    l = follow_bytes s j (next_of first cs) d

    k : ℕ
    k = data_words s j

    other : (x : ℕ) → holds cs x ≡ true → x ≡ c → ⊥
    other x h e = both_ways (holds cs c) apart.0 (subst (λ (y : ℕ). holds cs y ≡ true) e h)

-- the whole record
pub record_taken : (count : ℕ) (p : Sizes) (n s : ℕ) (d : List ℕ) (b : ℕ) (bs : List ℕ) (m : Memory) → Suits count p n s d b bs m
    → Taken count (record_commands p n s d b bs) m
unfolding record_commands_by_size first_commands_by_size
record_taken count p n s d b bs m suits =
    taken_then count (follow_commands (size p n) b d 0 bs) (programs b l k ++ (program b 13 mark ∷ [])) m
    (follow_taken count (size p n) b d bs 0 m suits.apart.1 suits.inside.1 (λ x h. suits.free x (or_right (eqb b x) (holds bs x) h)))
    (taken_then count (programs b l k) (program b 13 mark ∷ []) m₀
    (words_taken count b l k 0 m₀ suits.inside.0 (omega (arith, high)) (λ w x y. blank w (omega (arith, high))))
    ((suits.inside.0, omega arith, programs_beyond b l k m₀ b 13 high ∙ blank 13 (omega arith)), tt))
  where
    l : List ℕ
    l = first_bytes p n s (next_of b bs) d

    k : ℕ
    k = head_words (size p n)

    high : k ≤ 13
    high = head_high (size p n)

    m₀ : Memory
    m₀ = applied_all (follow_commands (size p n) b d 0 bs) m

    blank : (w : ℕ) → w < 15 → m₀ b w ≡ None
    blank w h =
        ap (λ (v : Words). v w) (followed_others (size p n) b d suits.bytes bs 0 m b suits.apart.0)
        ∙ (suits.free b (or_left (eqb b b) (holds bs b) (eq-eqb b b refl))).0 w (omega arith)
