-- How many commands a record takes.
use Rattle.std.proofs.Common.{◌≡◌, ℕ, suc, ◌+◌, ◌*◌, ◌≤◌, List, [], ◌∷◌, ◌++◌, length, sym, refl, ap, ◌∙◌, add-one, arith, length-append}
use Rattle.std.specs.List.{range_with_len, sum_by}
use Rattle.std.proofs.lemmas.List.FromFn.{length-map-range_with_len}
use Rattle.std.proofs.lemmas.List.Sums.{sum_by-cons}
use Rattle.flash.specs.Commands.{program}
use Rattle.clearing.specs.Clearing.{mark}
use Rattle.layout.specs.Sizes.{size, followers, head_words, data_words}
use Rattle.writing.specs.Writing.{word_of, first_bytes, first_commands_by_size, follow_bytes, programs, next_of, follow_commands, record_commands_by_size, commands_of}
use Rattle.writing.specs.Law.{Counts}
use Rattle.writing.proofs.Fill.{words_high}

length_programs : (b : ℕ) (l : List ℕ) (k : ℕ) → length (programs b l k) ≡ k
length_programs b l k = length-map-range_with_len (λ w. program b w (word_of l w)) 0 k

length_follow : (z b : ℕ) (d : List ℕ) (j : ℕ) (bs : List ℕ) → length (follow_commands z b d j bs) ≡ sum_by (data_words z) (range_with_len j (length bs))
length_follow z b d j [] = refl
length_follow z b d j (c ∷ cs) =
    length-append (programs c (follow_bytes z j (next_of b cs) d) (data_words z j)) (follow_commands z b d (suc j) cs)
    ∙ (let e = length_programs c (follow_bytes z j (next_of b cs) d) (data_words z j) in
    let f = length_follow z b d (suc j) cs in
    let g : sum_by (data_words z) (range_with_len (suc j) (length cs)) ≡ sum_by (data_words z) (range_with_len (j + 1) (length cs)) = ap (λ i. sum_by (data_words z) (range_with_len i (length cs))) (sym (add-one j)) in
    let h = sum_by-cons (data_words z) j (range_with_len (j + 1) (length cs)) in
    omega arith)

pub record_counts : (z : ℕ) → Counts z (commands_of z)
unfolding record_commands_by_size first_commands_by_size commands_of
record_counts z p n s d b bs e f =
    length-append (follow_commands (size p n) b d 0 bs) (programs b (first_bytes p n s (next_of b bs) d) (head_words (size p n)) ++ (program b 13 mark ∷ []))
    ∙ (let g = length-append (programs b (first_bytes p n s (next_of b bs) d) (head_words (size p n))) (program b 13 mark ∷ []) in
    let h = length_programs b (first_bytes p n s (next_of b bs) d) (head_words (size p n)) in
    let i : length (follow_commands (size p n) b d 0 bs) ≡ sum_by (data_words z) (range_with_len 0 (followers z)) =
    length_follow (size p n) b d 0 bs ∙ ap (λ k. sum_by (data_words k) (range_with_len 0 (length bs))) e ∙ ap (λ k. sum_by (data_words z) (range_with_len 0 k)) f in
    let k : head_words (size p n) ≡ head_words z = ap head_words e in
    omega arith)

-- at most 14 words in each following block
pub few_words : (z : ℕ) (js : List ℕ) → sum_by (data_words z) js ≤ 14 * length js
few_words z [] = omega arith
few_words z (j ∷ js) = omega (arith, sum_by-cons (data_words z) j js, words_high z j, few_words z js)
