-- Words that are programmed one by one: what they leave in their block, and the following blocks of a record in place.
use Rattle.std.proofs.Common.{◌≡◌, ℕ, zero, suc, ◌+◌, ◌-◌, ◌*◌, ◌<◌, ◌≤◌, min, Bool, true, false, cond, ◌&&◌, eqb, ltb, leb, ◌⊎◌, List, [], ◌∷◌, ◌++◌, map, length, take, drop, Some, None, sym, refl, ap, ◌∙◌, subst, inl, inr, arith, length-drop, take-append-drop}
use mathlib.Core.Path.{fun_ext}
use Rattle.std.specs.List.{range_with_len, AllByRecursion}
use Rattle.std.proofs.lemmas.List.{drop-drop, drop_all}
use Rattle.std.proofs.lemmas.Bool.{and_from, or_left, or_right, or_parts, eq-eqb, eqb-false, lt-ltb, cases_eq, cases_lt, both_ways, not_from_false}
use Rattle.std.proofs.lemmas.Bool.Decides.{nat_tests}
use Rattle.flash.specs.State.{Words, Memory, put}
use Rattle.flash.specs.Commands.{Command, program}
use Rattle.flash.specs.Lists.{applied_all}
use Rattle.layout.specs.Sizes.{share, data_words}
use Rattle.layout.specs.Fields.{chain, bytes, written, all_from}
use Rattle.layout.specs.Sound.{follows, leads}
use Rattle.layout.specs.Records.{chained, data_from}
use Rattle.layout.specs.States.{holds}
use Rattle.writing.specs.Writing.{word_of, follow_bytes, programs, next_of, follow_commands}
use Rattle.writing.specs.Law.{Bare, Distinct}
use Rattle.writing.proofs.Codec.{Small, follow_kind, follow_chain, follow_data}

pub applied_append : (xs ys : List Command) (m : Memory) → applied_all (xs ++ ys) m ≡ applied_all ys (applied_all xs m)
applied_append [] ys m = refl
applied_append (program b w v ∷ xs) ys m = applied_append xs ys _
applied_append (Command.erase b ∷ xs) ys m = applied_append xs ys _

pub all_from_by : (t : ℕ → Bool) (k l : ℕ) → ((w : ℕ) → k ≤ w → w < k + l → t w ≡ true) → all_from t k l ≡ true
all_from_by t k zero h = refl
all_from_by t k (suc l) h = and_from (t k) (all_from t (suc k) l) (h k (omega arith) (omega arith)) (all_from_by t (suc k) l (λ w a b. h w (omega arith) (omega arith)))

-- the words from a up to a + k of block c are programmed, and no other
pub programmed : (c : ℕ) (l : List ℕ) (k a : ℕ) (m : Memory) (x w : ℕ)
    → applied_all (map (λ w. program c w (word_of l w)) (range_with_len a k)) m x w ≡ cond (eqb c x && (leb a w && ltb w (a + k))) (Some (word_of l w)) (m x w)
programmed c l zero a m x w = grind (arith, nat_tests)
programmed c l (suc k) a m x w =
    programmed c l k (a + 1) (put m c a (Some (word_of l a))) x w
    ∙ elim (cases_eq w a) [ inl e ↦ rw e (grind (arith, nat_tests)) | inr e ↦ grind (arith, nat_tests) ]

-- words 0 to k - 1 of block c
module _ (c : ℕ) (l : List ℕ) (k : ℕ) (m : Memory) where
  pub programs_here : (w : ℕ) → w < k → applied_all (programs c l k) m c w ≡ Some (word_of l w)
  programs_here w h = programmed c l k 0 m c w ∙ grind (arith, nat_tests)

  pub programs_beyond : (x w : ℕ) → k ≤ w → applied_all (programs c l k) m x w ≡ m x w
  programs_beyond x w h = programmed c l k 0 m x w ∙ grind (arith, nat_tests)

  pub programs_other : (x : ℕ) → (x ≡ c → ⊥) → applied_all (programs c l k) m x ≡ m x
  programs_other x h = fun_ext (λ w. programmed c l k 0 m x w ∙ grind (arith, nat_tests))

words_low : (s j : ℕ) → 1 ≤ data_words s j
unfolding data_words
words_low s j = omega arith

pub words_high : (s j : ℕ) → data_words s j ≤ 14
unfolding data_words share
words_high s j = omega arith

-- a block that the chain names has a number of two bytes
pub next_small : (count first : ℕ) → count ≤ 256 → first < count → (l : List ℕ) → AllByRecursion (λ x. x < count) l → next_of first l < 65536
next_small count first big lf [] q = omega arith
next_small count first big lf (y ∷ ys) q = omega (arith, q.0)

module _ (s first : ℕ) (d : List ℕ) (small : Small d) where
  -- the following blocks in place
  abbrev pub Image : Memory → ℕ → List ℕ → Type 0
  Image m j [] = Unit {0}
  Image m j (c ∷ cs) =
      (((w : ℕ) → w < data_words s j → m c w ≡ Some (word_of (follow_bytes s j (next_of first cs) d) w))
      × ((w : ℕ) → data_words s j ≤ w → (w ≡ 15 → ⊥) → m c w ≡ None)
      × (written (m c 15) ≡ true))
      × Image m (suc j) cs

  pub image_same : (m m' : Memory) (j : ℕ) (cs : List ℕ) → ((x : ℕ) → holds cs x ≡ true → m' x ≡ m x) → Image m j cs → Image m' j cs
  image_same m m' j [] e i = tt
  image_same m m' j (c ∷ cs) e i =
      let q : m' c ≡ m c = e c (or_left (eqb c c) (holds cs c) (eq-eqb c c refl)) in (
        (
          (λ w l. ap (λ (v : Words). v w) q ∙ i.0.0 w l),
          (λ w l k. ap (λ (v : Words). v w) q ∙ i.0.1 w l k),
          ap (λ (v : Words). written (v 15)) q ∙ i.0.2,
        ),
        image_same m m' (suc j) cs (λ x h. e x (or_right (eqb c x) (holds cs x) h)) i.1,
      )

  -- the following blocks are in place, and no other block changed
  pub followed_others : (bs : List ℕ) (j : ℕ) (m : Memory) (x : ℕ) → holds bs x ≡ false → applied_all (follow_commands s first d j bs) m x ≡ m x
  followed_others [] j m x h = refl
  followed_others (c ∷ cs) j m x h =
      let q = or_parts (eqb c x) (holds cs x) h in
      ap (λ (y : Memory). y x) (applied_append (programs c (follow_bytes s j (next_of first cs) d) (data_words s j)) (follow_commands s first d (suc j) cs) m)
      ∙ followed_others cs (suc j) _ x q.1
      ∙ programs_other c (follow_bytes s j (next_of first cs) d) (data_words s j) m x (λ e. eqb-false c x q.0 (sym e))

  -- no erase mark changed
  pub followed_beyond : (bs : List ℕ) (j : ℕ) (m : Memory) (x w : ℕ) → 13 < w → applied_all (follow_commands s first d j bs) m x w ≡ m x w
  followed_beyond [] j m x w h = refl
  followed_beyond (c ∷ cs) j m x w h =
      ap (λ (y : Memory). y x w) (applied_append (programs c (follow_bytes s j (next_of first cs) d) (data_words s j)) (follow_commands s first d (suc j) cs) m)
      ∙ followed_beyond cs (suc j) _ x w h
      ∙ programs_beyond c (follow_bytes s j (next_of first cs) d) (data_words s j) m x w (omega (arith, words_high s j))

  pub followed : (bs : List ℕ) (j : ℕ) (m : Memory) → Distinct bs → ((x : ℕ) → holds bs x ≡ true → Bare (m x)) → Image (applied_all (follow_commands s first d j bs) m) j bs
  followed [] j m dis bare = tt
  followed (c ∷ cs) j m dis bare =
      let l = follow_bytes s j (next_of first cs) d in
      let k = data_words s j in
      let m₁ = applied_all (programs c l k) m in
      let whole = applied_append (programs c l k) (follow_commands s first d (suc j) cs) m in
      let same : applied_all (follow_commands s first d j (c ∷ cs)) m c ≡ m₁ c = ap (λ (y : Memory). y c) whole ∙ followed_others cs (suc j) m₁ c dis.0 in
      let here = bare c (or_left (eqb c c) (holds cs c) (eq-eqb c c refl)) in (
        (
          (λ w h. ap (λ (v : Words). v w) same ∙ programs_here c l k m w h),
          (λ w h e. ap (λ (v : Words). v w) same ∙ programs_beyond c l k m c w h ∙ here.0 w e),
          ap (λ (v : Words). written (v 15)) same ∙ ap written (programs_beyond c l k m c 15 (omega (arith, words_high s j))) ∙ here.1,
        ),
        subst (λ (y : Memory). Image y (suc j) cs) (sym whole)
            (followed cs (suc j) m₁ dis.1 (λ x h. subst Bare (sym (programs_other c l k m x (λ e. both_ways (holds cs c) dis.0 (subst (λ (y : ℕ). holds cs y ≡ true) e h)))) (bare x (or_right (eqb c x) (holds cs x) h)))),
      )

  -- what is in place is led through, and read back
  image_follows : (m : Memory) (j c next : ℕ)
      → ((w : ℕ) → w < data_words s j → m c w ≡ Some (word_of (follow_bytes s j next d) w))
      × ((w : ℕ) → data_words s j ≤ w → (w ≡ 15 → ⊥) → m c w ≡ None) × (written (m c 15) ≡ true)
      → follows s j (m c) ≡ true
  unfolding follows
  image_follows m j c next i =
      and_from _ _ (and_from _ _ (and_from _ _ (and_from _ _
      (eq-eqb _ _ (follow_kind (m c) s j next d small (i.0 0 (omega (arith, words_low s j)))))
      (all_from_by _ 0 (data_words s j - 0) (λ w a b. ap written (i.0 w (omega arith)))))
      (all_from_by _ (data_words s j) (14 - data_words s j) (λ w a b. not_from_false (written (m c w)) (ap written (i.1 w a (omega arith))))))
      (not_from_false (written (m c 14)) (ap written (i.1 14 (words_high s j) (omega arith)))))
      i.2

  pub image_leads : (count : ℕ) → count ≤ 256 → first < count → (m : Memory) (bs : List ℕ) (j : ℕ) → AllByRecursion (λ x. x < count) bs → Image m j bs
      → leads count m s first j (next_of first bs) (length bs) ≡ true
  image_leads count big lf m [] j a i = eq-eqb first first refl
  image_leads count big lf m (c ∷ cs) j a i =
      and_from _ _ (and_from _ _ (lt-ltb c count a.0) (image_follows m j c (next_of first cs) i.0))
      (subst (λ (x : ℕ). leads count m s first (suc j) x (length cs) ≡ true)
      (sym (follow_chain (m c) s j (next_of first cs) d small (next_small count first big lf cs a.1) (i.0.0 0 (omega (arith, words_low s j)))))
      (image_leads count big lf m cs (suc j) a.1 i.1))

  pub image_chained : (count : ℕ) → count ≤ 256 → first < count → (m : Memory) (bs : List ℕ) (j : ℕ) → AllByRecursion (λ x. x < count) bs → Image m j bs
      → chained m (next_of first bs) (length bs) ≡ bs
  image_chained count big lf m [] j a i = refl
  image_chained count big lf m (c ∷ cs) j a i =
      let ch : chain (m c) ≡ next_of first cs = follow_chain (m c) s j (next_of first cs) d small (next_small count first big lf cs a.1) (i.0.0 0 (omega (arith, words_low s j))) in
      ap (λ (t : List ℕ). c ∷ t) (ap (λ x. chained m x (length cs)) ch ∙ image_chained count big lf m cs (suc j) a.1 i.1)

  pub image_data : (count : ℕ) → count ≤ 256 → first < count → (m : Memory) (bs : List ℕ) (j : ℕ) → AllByRecursion (λ x. x < count) bs → Image m j bs
      → length d ≡ s → s ≤ 41 + 53 * j + 53 * length bs
      → data_from m s j (next_of first bs) (length bs) ≡ drop (41 + 53 * j) d
  unfolding share
  image_data count big lf m [] j a i e q = sym (drop_all (41 + 53 * j) d (omega arith))
  image_data count big lf m (c ∷ cs) j a i e q =
      let rest : data_from m s (suc j) (next_of first cs) (length cs) ≡ drop (41 + 53 * suc j) d = image_data count big lf m cs (suc j) a.1 i.1 e (omega arith) in
      let ch : chain (m c) ≡ next_of first cs = follow_chain (m c) s j (next_of first cs) d small (next_small count first big lf cs a.1) (i.0.0 0 (omega (arith, words_low s j))) in
      let da : bytes (m c) 3 (share s j) ≡ take (share s j) (drop (41 + 53 * j) d) = follow_data (m c) s j (next_of first cs) d small (omega arith) i.0.0 in
      rw (da, ch, rest) join
    where
      -- 53 bytes or all that are left, and then the rest
      split : (k n : ℕ) (xs : List ℕ) → k ≡ min (length xs) n → take k xs ++ drop n xs ≡ xs
      split k n xs h = go (cases_lt (length xs) n)
        where
          go : (length xs < n) ⊎ (n ≤ length xs) → take k xs ++ drop n xs ≡ xs
          go (inl l) = let z : k ≡ length xs = omega arith in
              subst (λ (t : List ℕ). take k xs ++ t ≡ xs) (drop_all k xs (omega arith) ∙ sym (drop_all n xs (omega arith))) (take-append-drop k xs)
          go (inr l) = let z : k ≡ n = omega arith in subst (λ (t : ℕ). take k xs ++ drop t xs ≡ xs) z (take-append-drop k xs)

      join : take (share s j) (drop (41 + 53 * j) d) ++ drop (41 + 53 * suc j) d ≡ drop (41 + 53 * j) d
      join =
          let z : 41 + 53 * suc j ≡ 41 + 53 * j + 53 = omega arith in
          let y : drop (41 + 53 * suc j) d ≡ drop 53 (drop (41 + 53 * j) d) = ap (λ (t : ℕ). drop t d) z ∙ sym (drop-drop 53 (41 + 53 * j) d) in
          subst (λ (t : List ℕ). take (share s j) (drop (41 + 53 * j) d) ++ t ≡ drop (41 + 53 * j) d) (sym y)
          (split (share s j) 53 (drop (41 + 53 * j) d) (len (length-drop (41 + 53 * j) d)))
        where
          len : length (drop (41 + 53 * j) d) ≡ length d - (41 + 53 * j) → share s j ≡ min (length (drop (41 + 53 * j) d)) 53
          len h = omega arith
