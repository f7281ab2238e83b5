-- The commands of a record that are left, one step on: word by word in a block, and block by block.
use Rattle.std.proofs.Common.{◌≡◌, ℕ, suc, ◌+◌, ◌-◌, ◌<◌, ◌≤◌, List, [], ◌∷◌, ◌++◌, map, length, get_or, drop, get_or-drop, Ok, Err, Result, sym, refl, ap, ◌∙◌, subst, arith}
use Rattle.std.specs.List.{range_with_len}
use Rattle.std.proofs.lemmas.List.{at_drop_more, at_drop_all, append_assoc}
use Rattle.flash.specs.declared.BlockNumber.{BlockNumber}
use Rattle.flash.specs.declared.fault.FlashFault.{FlashFault}
use Rattle.flash.specs.Commands.{Command, program}
use Rattle.flash.specs.Rules.{Model, Obeys}
use Rattle.flash.specs.Lists.{Tried}
use Rattle.layout.specs.Sizes.{data_words}
use Rattle.layout.proofs.Loops.{left_suc, left_none}
use Rattle.writing.specs.Listed.{numbers_of}
use Rattle.writing.specs.Writing.{word_of, follow_bytes, programs, next_of, follow_commands}
use Rattle.writing.proofs.Joined.{one_then, one_stop, tried_then, tried_stop}

-- n words of block b, from word w on
abbrev pub words_from : ℕ → List ℕ → ℕ → ℕ → List Command
words_from b l w n = map (λ i. program b i (word_of l i)) (range_with_len w n)

module _ {F : Type 0} (model : Model F) (b : ℕ) (l : List ℕ) (w n v : ℕ) (x z : F) (e : v ≡ word_of l w) (h : w < n) where
  here : words_from b l w (n - w) ≡ program b w v ∷ words_from b l (w + 1) (n - (w + 1))
  here = rw (left_suc w n h, e) refl

  pub words_more : (y : F) (u : Unit {0}) (r : Result (Unit {0}) FlashFault)
      → Obeys model (program b w v) x (Ok u) z → Tried model (words_from b l (w + 1) (n - (w + 1))) z r y → Tried model (words_from b l w (n - w)) x r y
  words_more y u r o t = subst (λ (cs : List Command). Tried model cs x r y) (sym here) (one_then model (program b w v) _ x z y u r o t)

  pub words_stop : (f : FlashFault) → Obeys model (program b w v) x (Err f) z → Tried model (words_from b l w (n - w)) x (Err f) z
  words_stop f o = subst (λ (cs : List Command). Tried model cs x (Err f) z) (sym here) (one_stop model (program b w v) _ x z f o)

pub words_end : {F : Type 0} (model : Model F) (b : ℕ) (l : List ℕ) (w n : ℕ) (x : F) → n ≤ w → Tried model (words_from b l w (n - w)) x (Ok tt) x
words_end model b l w n x h = rw (left_none w n h) (refl, refl)

-- the words of a block that holds l, and then other commands
module _ {F : Type 0} (model : Model F) (b : ℕ) (l l' : List ℕ) (n n' : ℕ) (e : l ≡ l') (q : n ≡ n') (ys : List Command) (x z : F) where
  same_programs : programs b l n ≡ programs b l' n'
  same_programs = ap (λ (t : List ℕ). programs b t n) e ∙ ap (programs b l') q

  pub programs_then : (y : F) (u : Unit {0}) (r : Result (Unit {0}) FlashFault) → Tried model (programs b l n) x (Ok u) z → Tried model ys z r y → Tried model (programs b l' n' ++ ys) x r y
  programs_then y u r h t = tried_then model (programs b l' n') ys x z y u r (subst (λ (cs : List Command). Tried model cs x (Ok u) z) same_programs h) t

  pub programs_stop : (f : FlashFault) → Tried model (programs b l n) x (Err f) z → Tried model (programs b l' n' ++ ys) x (Err f) z
  programs_stop f h = tried_stop model (programs b l' n') ys x z f (subst (λ (cs : List Command). Tried model cs x (Err f) z) same_programs h)

-- the block after which the chain goes on from the first block
pub next_first : (first : BlockNumber) (bs : List BlockNumber) → (get_or bs 0 first).0 ≡ next_of first.0 (numbers_of bs)
next_first first [] = refl
next_first first (b ∷ bs) = refl

-- the following blocks from place j on, and then other commands
module _ (z : ℕ) (first : BlockNumber) (d : List ℕ) (bs : List BlockNumber) (ys : List Command) where
  -- those of the blocks cs, which begin at place j
  abbrev from : ℕ → List BlockNumber → List Command
  from j cs = follow_commands z first.0 d j (numbers_of cs) ++ ys

  abbrev pub left : ℕ → List Command
  left j = from j (drop j bs)

  -- block j alone, and the block after which the chain goes on from it
  abbrev pub block : ℕ → BlockNumber → List Command
  block j next = programs (get_or bs j (record { 0 = 0 })).0 (follow_bytes z j next.0 d) (data_words z j)

  left_more : (j : ℕ) (next : BlockNumber) → j < length bs → next ≡ get_or bs (j + 1) first → left j ≡ block j next ++ left (j + 1)
  left_more j next h e =
      let cs : List BlockNumber = drop (j + 1) bs in
      let q : next.0 ≡ next_of first.0 (numbers_of cs) =
      ap (λ (b : BlockNumber). b.0) (e ∙ ap (λ (k : ℕ). get_or bs k first) (omega arith) ∙ sym (get_or-drop (j + 1) bs 0 first)) ∙ next_first first cs in
      let b : ℕ = (get_or bs j (record { 0 = 0 })).0 in
      at_drop_more (from j) bs j (record { 0 = 0 }) h
      ∙ rw q
      (append_assoc (programs b (follow_bytes z j (next_of first.0 (numbers_of cs)) d) (data_words z j)) (follow_commands z first.0 d (suc j) (numbers_of cs)) ys
      ∙ ap (λ (k : ℕ). programs b (follow_bytes z j (next_of first.0 (numbers_of cs)) d) (data_words z j) ++ from k cs) (omega arith))

  module _ {F : Type 0} (model : Model F) (j : ℕ) (x y : F) where
    pub blocks_more : (next : BlockNumber) (v : F) (u : Unit {0}) (r : Result (Unit {0}) FlashFault) → j < length bs → next ≡ get_or bs (j + 1) first
        → Tried model (block j next) x (Ok u) v → Tried model (left (j + 1)) v r y → Tried model (left j) x r y
    blocks_more next v u r h e o t = subst (λ (cs : List Command). Tried model cs x r y) (sym (left_more j next h e)) (tried_then model (block j next) (left (j + 1)) x v y u r o t)

    pub blocks_stop : (next : BlockNumber) (f : FlashFault) → j < length bs → next ≡ get_or bs (j + 1) first → Tried model (block j next) x (Err f) y → Tried model (left j) x (Err f) y
    blocks_stop next f h e o = subst (λ (cs : List Command). Tried model cs x (Err f) y) (sym (left_more j next h e)) (tried_stop model (block j next) (left (j + 1)) x y f o)

    pub blocks_end : (r : Result (Unit {0}) FlashFault) → length bs ≤ j → Tried model ys x r y → Tried model (left j) x r y
    blocks_end r h o = subst (λ (cs : List Command). Tried model cs x r y) (sym (at_drop_all (from j) bs j h)) o
