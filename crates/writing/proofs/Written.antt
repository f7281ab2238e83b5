-- The commands of a record, done on free blocks, leave a sound record with its number, serial and data.
use Rattle.std.proofs.Common.{◌≡◌, ℕ, ◌-◌, ◌<◌, ◌≤◌, min, true, false, eqb, ◌⊎◌, List, [], ◌∷◌, ◌++◌, length, take, drop, Some, None, Option, sym, refl, ap, ◌∙◌, subst, inl, inr, arith, take-append-drop}
use mathlib.Core.Path.{fun_ext}
use Rattle.std.proofs.lemmas.List.{drop_all}
use Rattle.std.proofs.lemmas.Bool.{and_from, or_left, or_right, or_parts, eq-eqb, ne_eqb, eqb-false, lt-ltb, cases_lt, both_ways, not_from_false}
use Rattle.std.proofs.lemmas.Bool.Decides.{nat_tests}
use Rattle.flash.specs.State.{Words, Memory, put}
use Rattle.flash.specs.Commands.{program}
use Rattle.flash.specs.Lists.{applied_all}
use Rattle.clearing.specs.Clearing.{mark}
use Rattle.layout.specs.Sizes.{Sizes, numbers, size, followers, first_share, head_words}
use Rattle.layout.specs.Fields.{chain, number, serial, bytes, written}
use Rattle.layout.specs.Code.{code_of}
use Rattle.layout.specs.Sound.{candidate, coded, leads, sound}
use Rattle.layout.specs.Records.{blocks_at, data_from, data_at}
use Rattle.layout.specs.States.{holds}
use Rattle.writing.specs.Writing.{word_of, first_bytes, programs, next_of, follow_commands, first_commands_by_size, record_commands, record_commands_by_size}
use Rattle.writing.specs.Law.{Bare, Suits, Wrote, SoundWhenDone}
use Rattle.writing.proofs.Codec.{first_kind, first_chain, first_number, first_serial, first_code, first_data}
use Rattle.writing.proofs.Fill.{applied_append, all_from_by, programs_here, programs_beyond, programs_other, Image, image_same, image_leads, image_chained, image_data, next_small, followed, followed_others, followed_beyond}

head_low : (s : ℕ) → 1 ≤ s → 3 ≤ head_words s
unfolding head_words first_share
head_low s h = omega arith

pub head_high : (s : ℕ) → head_words s ≤ 13
unfolding head_words first_share
head_high s = omega arith

put_other : (m : Memory) (b w : ℕ) (x : Option ℕ) (c : ℕ) → (c ≡ b → ⊥) → (v : ℕ) → put m b w x c v ≡ m c v
put_other m b w x c h v = let e : eqb b c ≡ false = ne_eqb b c (λ q. h (sym q)) in rw e

pub put_word : (m : Memory) (b w : ℕ) (x : Option ℕ) (c v : ℕ) → (v ≡ w → ⊥) → put m b w x c v ≡ m c v
put_word m b w x c v h = grind (arith, nat_tests)

put_here : (m : Memory) (b w : ℕ) (x : Option ℕ) → put m b w x b w ≡ x
put_here m b w x = grind (arith, nat_tests)

module _ (count : ℕ) (p : Sizes) (n s : ℕ) (d : List ℕ) (b : ℕ) (bs : List ℕ) (m : Memory) (suits : Suits count p n s d b bs m) where
  abbrev next : ℕ
  next = next_of b bs

  abbrev l : List ℕ
  l = first_bytes p n s next d

  abbrev k : ℕ
  k = head_words (size p n)

  -- after the following blocks, after the words of the first block, and after write end
  abbrev m₀ : Memory
  m₀ = applied_all (follow_commands (size p n) b d 0 bs) m

  abbrev m₁ : Memory
  m₁ = applied_all (programs b l k) m₀

  abbrev m' : Memory
  m' = put m₁ b 13 (Some mark)

  done_is : applied_all (record_commands p n s d b bs) m ≡ m'
  unfolding record_commands_by_size first_commands_by_size
  done_is = applied_append (follow_commands (size p n) b d 0 bs) (programs b l k ++ (program b 13 mark ∷ [])) m ∙ applied_append (programs b l k) (program b 13 mark ∷ []) m₀

  at_b : m₀ b ≡ m b
  at_b = followed_others (size p n) b d suits.bytes bs 0 m b suits.apart.0

  bare_b : Bare (m b)
  bare_b = suits.free b (or_left (eqb b b) (holds bs b) (eq-eqb b b refl))

  high : k ≤ 13
  high = head_high (size p n)

  low : 3 ≤ k
  low = head_low (size p n) (suits.planned.sized n suits.known).0

  filled : (w : ℕ) → w < k → m' b w ≡ Some (word_of l w)
  filled w h = put_word m₁ b 13 (Some mark) b w (omega (arith, high)) ∙ programs_here b l k m₀ w h

  beyond : (w : ℕ) → k ≤ w → (w ≡ 13 → ⊥) → (w ≡ 15 → ⊥) → m' b w ≡ None
  beyond w h e f = put_word m₁ b 13 (Some mark) b w e ∙ programs_beyond b l k m₀ b w h ∙ ap (λ (v : Words). v w) at_b ∙ bare_b.0 w f

  ended : m' b 13 ≡ Some mark
  ended = put_here m₁ b 13 (Some mark)

  over : written (m' b 15) ≡ true
  over = ap written (put_word m₁ b 13 (Some mark) b 15 (omega arith) ∙ programs_beyond b l k m₀ b 15 (omega (arith, high)) ∙ ap (λ (v : Words). v 15) at_b) ∙ bare_b.1

  at : (w : ℕ) → w < 3 → m' b w ≡ Some (word_of l w)
  at w h = filled w (omega (arith, low))

  named : n < 65536
  named = omega (arith, suits.known, suits.planned.few)

  num : number (m' b) ≡ n
  num = first_number (m' b) p n s next d suits.bytes named (at 0 (omega arith)) (at 1 (omega arith))

  ser : serial (m' b) ≡ s
  ser = first_serial (m' b) p n s next d suits.bytes suits.counted (at 1 (omega arith)) (at 2 (omega arith))

  is_candidate : candidate p n (m' b) ≡ true
  unfolding candidate
  is_candidate =
      and_from _ _ (and_from _ _ (and_from _ _ (and_from _ _ (and_from _ _ (and_from _ _ (and_from _ _
      (lt-ltb n (numbers p) suits.known)
      (eq-eqb _ _ (first_kind (m' b) p n s next d suits.bytes (at 0 (omega arith)))))
      (eq-eqb _ _ num))
      (all_from_by _ 0 (k - 0) (λ w a h. ap written (filled w (omega arith)))))
      (all_from_by _ k (13 - k) (λ w a h. not_from_false (written (m' b w)) (ap written (beyond w a (omega (arith, high)) (omega (arith, high)))))))
      (ap written ended))
      (not_from_false (written (m' b 14)) (ap written (beyond 14 (omega (arith, high)) (omega arith) (omega arith)))))
      over

  is_coded : coded (m' b) ≡ true
  unfolding coded
  is_coded = eq-eqb _ _ (first_code (m' b) p n s next d suits.bytes (at 2 (omega arith)) ∙ ap (λ x. code_of x s) (sym num) ∙ ap (code_of (number (m' b))) (sym ser))

  ch : chain (m' b) ≡ next
  ch = first_chain (m' b) p n s next d suits.bytes (next_small count b suits.few suits.inside.0 bs suits.inside.1) (at 0 (omega arith))

  others : (x : ℕ) → (x ≡ b → ⊥) → (w : ℕ) → m' x w ≡ m₀ x w
  others x h w = put_other m₁ b 13 (Some mark) x h w ∙ ap (λ (v : Words). v w) (programs_other b l k m₀ x h)

  not_b : (x : ℕ) → holds bs x ≡ true → x ≡ b → ⊥
  not_b x h e = both_ways (holds bs b) suits.apart.0 (subst (λ (y : ℕ). holds bs y ≡ true) e h)

  in_place : Image (size p n) b d suits.bytes m' 0 bs
  in_place =
      image_same (size p n) b d suits.bytes m₀ m' 0 bs (λ x h. fun_ext (others x (not_b x h)))
      (followed (size p n) b d suits.bytes bs 0 m suits.apart.1 (λ x h. suits.free x (or_right (eqb b x) (holds bs x) h)))

  is_led : leads count m' (size p n) b 0 (chain (m' b)) (followers (size p n)) ≡ true
  is_led = rw (ch, sym suits.enough) (image_leads (size p n) b d suits.bytes count suits.few suits.inside.0 m' bs 0 suits.inside.1 in_place)

  is_sound : sound count m' p n b ≡ true
  unfolding sound
  is_sound = and_from _ _ (and_from _ _ (and_from _ _ (lt-ltb b count suits.inside.0) is_candidate) is_coded) is_led

  is_kept : data_at m' p n b ≡ d
  unfolding data_at followers first_share
  is_kept = rw (da, ch, sym suits.enough, rest) (join (cases_lt (size p n) 41))
    where
      da : bytes (m' b) 11 (first_share (size p n)) ≡ take (first_share (size p n)) d
      da = first_data (m' b) p n s next d suits.bytes (omega (arith, suits.sized)) filled

      rest : data_from m' (size p n) 0 next (length bs) ≡ drop 41 d
      rest = image_data (size p n) b d suits.bytes count suits.few suits.inside.0 m' bs 0 suits.inside.1 in_place suits.sized (omega (arith, suits.enough))

      join : (size p n < 41) ⊎ (41 ≤ size p n) → take (min (size p n) 41) d ++ drop 41 d ≡ d
      join (inl h) = let z : min (size p n) 41 ≡ length d = omega (arith, suits.sized) in
          subst (λ (t : List ℕ). take (min (size p n) 41) d ++ t ≡ d) (drop_all (min (size p n) 41) d (omega arith) ∙ sym (drop_all 41 d (omega (arith, suits.sized)))) (take-append-drop (min (size p n) 41) d)
      join (inr h) = let z : min (size p n) 41 ≡ 41 = omega arith in subst (λ (t : ℕ). take (min (size p n) 41) d ++ drop t d ≡ d) z (take-append-drop (min (size p n) 41) d)

  is_apart : (x : ℕ) → holds (b ∷ bs) x ≡ false → m' x ≡ m x
  is_apart x h =
      let q = or_parts (eqb b x) (holds bs x) h in
      fun_ext (others x (λ e. eqb-false b x q.0 (sym e))) ∙ followed_others (size p n) b d suits.bytes bs 0 m x q.1

  is_placed : blocks_at m' p n b ≡ b ∷ bs
  unfolding blocks_at
  is_placed =
      rw (ch, sym suits.enough)
      (ap (λ (t : List ℕ). b ∷ t) (image_chained (size p n) b d suits.bytes count suits.few suits.inside.0 m' bs 0 suits.inside.1 in_place))

  is_marked : (x w : ℕ) → 13 < w → m' x w ≡ m x w
  is_marked x w h =
      put_word m₁ b 13 (Some mark) x w (omega arith)
      ∙ programs_beyond b l k m₀ x w (omega (arith, high))
      ∙ followed_beyond (size p n) b d suits.bytes bs 0 m x w h

  written_so : Wrote count p n s d b bs m m'
  written_so = record { whole = is_sound; numbered = ser; kept = is_kept; placed = is_placed; marks = is_marked; others = is_apart }

pub sound_when_done : SoundWhenDone
sound_when_done count p n s d b bs m suits =
    subst (Wrote count p n s d b bs m) (sym (done_is count p n s d b bs m suits)) (written_so count p n s d b bs m suits)
