-- What a write decides, one refusal after another.
use Rattle.std.proofs.Common.{◌≡◌, ℕ, suc, ◌+◌, ◌^◌, ◌<◌, ◌≤◌, min, true, false, eqb, ltb, List, [], ◌∷◌, length, take, Some, None, Ok, Err, filter, Option, sym, refl, ap, ◌∙◌, subst, inl, inr, add-one, arith}
use Rattle.std.specs.List.{AllByRecursion}
use Rattle.std.proofs.lemmas.Bool.{lt-ltb, eq-eqb, cases_Bool, ltb-false, eqb-false, cond-true, cond-false}
use Rattle.flash.specs.State.{State, Shaped, Words, Memory}
use Rattle.flash.specs.Lists.{applied_all, Taken}
use Rattle.layout.specs.Sizes.{Sizes, Planned, numbers, size, followers, blocks_of}
use Rattle.layout.specs.Fields.{low, byte, serial}
use Rattle.layout.specs.Records.{newest}
use Rattle.layout.specs.States.{holds}
use Rattle.records.specs.declared.head.Head.{Head}
use Rattle.records.specs.Heads.{headed}
use Rattle.records.specs.Tables.{Tabled}
use Rattle.survey.specs.declared.overview.Overview.{Overview}
use Rattle.records.specs.declared.table.Counts.{Counts}
use Rattle.survey.specs.Newest.{newest_in}
use Rattle.records.specs.Entries.{entry_in}
use Rattle.survey.specs.Entries.{entry_of, counts_of}
use Rattle.survey.proofs.Newer.{newest_table}
use Rattle.writing.specs.Writing.{record_on}
use Rattle.writing.specs.Law.{Distinct, Suits, Wrote}
use Rattle.writing.proofs.Taken.{record_taken}
use Rattle.writing.proofs.Written.{sound_when_done}
use Rattle.choice.specs.declared.round.Round.{Round}
use Rattle.choice.specs.declared.round.Purpose.TheVariants.{Writing}
use Rattle.choice.specs.Choosing.{free_blocks}
use Rattle.choice.specs.Tables.{suited, round_of, round_after}
use Rattle.choice.proofs.Tabling.{free_blocks_tabled}
use Rattle.choice.proofs.Suiting.{free_blocks_suit, free_blocks_length}
use Rattle.bar.specs.declared.Bar.{Bar}
use Rattle.decision.specs.declared.fault.UnitCause.TheVariants.{EraseFirst, Full, SerialsSpent}
use Rattle.decision.specs.declared.fault.UnitFault.{UnitFault}
use Rattle.decision.specs.declared.fault.UnitFault.TheVariants.{Own}
use Rattle.decision.specs.Decisions.{Decision, refuse, perform, unless}
use Rattle.decision.specs.Calls.{serial_at, highest, write_commands, to_write}
use Rattle.decision.specs.Writes.{serial_after, roomed, LeadsToRecord}

-- the serial after the newest record's is one above the highest
serial_none : (m : Memory) (o : Option ℕ) → None ≡ serial_after (headed m o) → eqb (serial_at m o) 4294967295 ≡ true
serial_none m None e = absurd (let z : ◌≡◌ {A = ℕ} 0 1 = cc in omega arith)
serial_none m (Some b) e = elim (cases_Bool (eqb (serial (m b)) 4294967295)) [
  | inl t ↦ t
  | inr t ↦ absurd (let q : None ≡ Some (serial (m b) + 1) = e ∙ cond-false (eqb (serial (m b)) 4294967295) None (Some (serial (m b) + 1)) t in let z : ◌≡◌ {A = ℕ} 0 1 = cc in omega arith)
]

serial_some : (m : Memory) (o : Option ℕ) (n : ℕ) → Some n ≡ serial_after (headed m o) → (eqb (serial_at m o) 4294967295 ≡ false) × (n ≡ suc (serial_at m o))
serial_some m None n e = (refl, let q : n ≡ 1 = cc in q)
serial_some m (Some b) n e = elim (cases_Bool (eqb (serial (m b)) 4294967295)) [
  | inl t ↦ absurd (let q : Some n ≡ None = e ∙ cond-true (eqb (serial (m b)) 4294967295) None (Some (serial (m b) + 1)) t in let z : ◌≡◌ {A = ℕ} 0 1 = cc in omega arith)
  | inr t ↦ let q : Some n ≡ Some (serial (m b) + 1) = e ∙ cond-false (eqb (serial (m b)) 4294967295) None (Some (serial (m b) + 1)) t in
      (t, let z : n ≡ serial (m b) + 1 = cc in z ∙ add-one (serial (m b)))
]

-- how many blocks a record takes
pub blocks_wanted : (p : Sizes) (n z f : ℕ) → z ≡ size p n → f ≡ followers z → 1 + f ≡ blocks_of (size p n)
unfolding blocks_of
blocks_wanted p n z f e h = ap (λ (i : ℕ). 1 + i) (h ∙ ap followers e)

-- a serial has four bytes
serial_fits : (u : Words) → serial u < 4294967296
unfolding serial byte low
serial_fits u = omega arith

highest_fits : (m : Memory) (o : Option ℕ) → serial_at m o < 4294967296
highest_fits m None = omega arith
highest_fits m (Some b) = serial_fits (m b)

-- the decision once it is known that a serial is left: by the room that there is
module _ {A : Type 0} (c : Counts) (need : ℕ) (d : Decision A) where
  abbrev by_room : Decision A
  by_room = unless (ltb (c.free + c.spent + c.half_erased) need) (Own Full) (unless (ltb c.free need) (Own EraseFirst) d)

  room_refused : (e : UnitFault) → Err e ≡ roomed c need → by_room ≡ refuse e
  room_refused e h = elim (cases_Bool (ltb (c.free + c.spent + c.half_erased) need)) [
    | inl t ↦ let q : Err e ≡ Err (Own Full) = h ∙ cond-true (ltb (c.free + c.spent + c.half_erased) need) (Err (Own Full)) _ t in let z : e ≡ Own Full = cc in rw (t, z) refl
    | inr t ↦
        let q = h ∙ cond-false (ltb (c.free + c.spent + c.half_erased) need) (Err (Own Full)) _ t in
        elim (cases_Bool (ltb c.free need)) [
          | inl u ↦ let v : Err e ≡ Err (Own EraseFirst) = q ∙ cond-true (ltb c.free need) (Err (Own EraseFirst)) (Ok tt) u in let z : e ≡ Own EraseFirst = cc in rw (t, u, z) refl
          | inr u ↦ absurd (let v : Err e ≡ Ok tt = q ∙ cond-false (ltb c.free need) (Err (Own EraseFirst)) (Ok tt) u in let z : ◌≡◌ {A = ℕ} 0 1 = cc in omega arith)
        ]
  ]

  room_given : (x : Unit {0}) → Ok x ≡ roomed c need → (by_room ≡ d) × (need ≤ c.free)
  room_given x h = elim (cases_Bool (ltb (c.free + c.spent + c.half_erased) need)) [
    | inl t ↦ absurd (let q : Ok x ≡ Err (Own Full) = h ∙ cond-true (ltb (c.free + c.spent + c.half_erased) need) (Err (Own Full)) _ t in let z : ◌≡◌ {A = ℕ} 0 1 = cc in omega arith)
    | inr t ↦
        let q = h ∙ cond-false (ltb (c.free + c.spent + c.half_erased) need) (Err (Own Full)) _ t in
        elim (cases_Bool (ltb c.free need)) [
          | inl u ↦ absurd (let v : Ok x ≡ Err (Own EraseFirst) = q ∙ cond-true (ltb c.free need) (Err (Own EraseFirst)) (Ok tt) u in let z : ◌≡◌ {A = ℕ} 0 1 = cc in omega arith)
          | inr u ↦ (rw (t, u) refl, ltb-false c.free need u)
        ]
  ]

-- nothing is refused before the flash is looked over
module _ (p : Sizes) (n : ℕ) (d : List ℕ) (bar : Bar) (k : ℕ) (s : State)
    (known : n < numbers p) (sized : length d ≡ size p n) (unbarred : bar.changes ≡ false) (power : s.power ≡ true)
    (v : Overview) (heads : Tabled s.count s.word p v.heads) (o : Option Head) (latest : o ≡ newest_in v.heads (numbers p)) where
  abbrev top : ℕ
  top = highest s.count s.word p

  abbrev need : ℕ
  need = blocks_of (size p n)

  abbrev counts : Counts
  counts = counts_of s.count s.word p

  abbrev writes : Decision ℕ
  writes = perform (write_commands s.count s.word p n d) (suc top)

  to_serial : to_write p n d bar k s ≡ unless (eqb top 4294967295) (Own SerialsSpent) (by_room counts need writes)
  to_serial =
      let a : ltb n (numbers p) ≡ true = lt-ltb n (numbers p) known in
      let b : eqb (length d) (size p n) ≡ true = eq-eqb (length d) (size p n) sized in
      rw (a, b, unbarred, power) refl

  is_newest : o ≡ headed s.word (newest s.count s.word p)
  is_newest = latest ∙ newest_table s.count s.word p v.heads heads

  pub write_spent : None ≡ serial_after o → to_write p n d bar k s ≡ refuse (Own SerialsSpent)
  write_spent e =
      let t : eqb top 4294967295 ≡ true = serial_none s.word (newest s.count s.word p) (e ∙ ap serial_after is_newest) in
      to_serial ∙ rw t refl

  -- a serial is left
  module _ (next : ℕ) (after : Some next ≡ serial_after o) (c : Counts) (tallied : c ≡ counts) (z : ℕ) (wanted : z ≡ need) where
    serial_is : (eqb top 4294967295 ≡ false) × (next ≡ suc top)
    serial_is = serial_some s.word (newest s.count s.word p) next (after ∙ ap serial_after is_newest)

    to_room : to_write p n d bar k s ≡ by_room counts need writes
    to_room = let t : eqb top 4294967295 ≡ false = serial_is.0 in to_serial ∙ rw t refl

    rooms : roomed c z ≡ roomed counts need
    rooms = ap (λ (x : Counts). roomed x z) tallied ∙ ap (roomed counts) wanted

    pub write_roomless : (e : UnitFault) → Err e ≡ roomed c z → to_write p n d bar k s ≡ refuse e
    write_roomless e h = to_room ∙ room_refused counts need writes e (h ∙ rooms)

    -- and there is room
    module _ (x : Unit {0}) (room : Ok x ≡ roomed c z) (shape : Shaped s) (planned : Planned p) (bytes : AllByRecursion (λ x. x < 256) d)
        (states : (b : ℕ) → entry_in v.survey b ≡ entry_of s.count s.word p b) (r : Round) (i : ℕ) (goes : r ≡ round_after o i) (counted-so : i ≡ s.count) (few : z ≤ 20)
        (bs : List ℕ) (taken : bs ≡ take (min z 20) (filter (suited Writing v.survey) (round_of r))) where
      given : (by_room counts need writes ≡ writes) × (need ≤ counts.free)
      given = room_given counts need writes x (room ∙ rooms)

      are_free : bs ≡ free_blocks s.count s.word p need
      are_free =
          taken
          ∙ ap (λ (q : Round). take (min z 20) (filter (suited Writing v.survey) (round_of q))) (goes ∙ ap (round_after o) counted-so)
          ∙ free_blocks_tabled s.count s.word p v.survey states o is_newest z few
          ∙ ap (free_blocks s.count s.word p) wanted

      are_enough : length bs ≡ 1 + followers (size p n)
      unfolding blocks_of
      are_enough = ap length are_free ∙ free_blocks_length s.count s.word p need given.1

      write_goes : (q : ℕ) → q ≡ size p n → to_write p n d bar k s ≡ perform (record_on q n next d bs) next
      unfolding write_commands
      write_goes q e =
          to_room ∙ given.0
          ∙ ap (λ (l : List ℕ). perform (record_on (size p n) n (suc top) d l) (suc top)) (sym are_free)
          ∙ ap (λ (j : ℕ). perform (record_on (size p n) n j d bs) j) (sym serial_is.1)
          ∙ ap (λ (j : ℕ). perform (record_on j n next d bs) next) (sym e)

      fits : next < 2 ^ 32
      fits = omega (arith, serial_is.1, eqb-false top 4294967295 serial_is.0, highest_fits s.word (newest s.count s.word p))

      -- what the commands of a record ask
      suited_so : (b : ℕ) (cs : List ℕ) → bs ≡ b ∷ cs → Suits s.count p n next d b cs s.word
      suited_so b cs e =
          let f = free_blocks_suit s p need shape in
          let at : free_blocks s.count s.word p need ≡ b ∷ cs = sym are_free ∙ e in
          record {
            few = shape.few;
            planned = planned;
            known = known;
            sized = sized;
            bytes = bytes;
            counted = fits;
            enough = let l : length (b ∷ cs) ≡ 1 + followers (size p n) = sym (ap length e) ∙ are_enough in omega arith;
            inside = subst (AllByRecursion (λ x. x < s.count)) at f.inside;
            apart = subst Distinct at f.apart;
            free = λ y h. f.free y (subst (λ (l : List ℕ). holds l y ≡ true) (sym at) h);
          }

      some_block : (l : List ℕ) → bs ≡ l → (b : ℕ) × (cs : List ℕ) × (bs ≡ b ∷ cs)
      some_block [] e = absurd (omega (arith, ap length e, are_enough))
      some_block (b ∷ cs) e = (b, cs, e)

      write_taken : (q : ℕ) → q ≡ size p n → Taken s.count (record_on q n next d bs) s.word
      write_taken q e =
          let f = some_block bs refl in
          subst (λ (j : ℕ). Taken s.count (record_on j n next d bs) s.word) (sym e)
          (subst (λ (l : List ℕ). Taken s.count (record_on (size p n) n next d l) s.word) (sym f.2) (record_taken s.count p n next d f.0 f.1 s.word (suited_so f.0 f.1 f.2)))

      write_leads : (q : ℕ) → q ≡ size p n → LeadsToRecord s.count s.word p n d next (applied_all (record_on q n next d bs) s.word)
      write_leads q e =
          let f = some_block bs refl in (
            f.0,
            f.1,
            sym are_free ∙ f.2,
            subst (λ (j : ℕ). Wrote s.count p n next d f.0 f.1 s.word (applied_all (record_on j n next d bs) s.word)) (sym e)
                (subst (λ (l : List ℕ). Wrote s.count p n next d f.0 f.1 s.word (applied_all (record_on (size p n) n next d l) s.word)) (sym f.2)
                (sound_when_done s.count p n next d f.0 f.1 s.word (suited_so f.0 f.1 f.2))),
          )

      pub write_decided : (q : ℕ) → q ≡ size p n
          → ((to_write p n d bar k s ≡ perform (record_on q n next d bs) next) × (s.power ≡ true) × Taken s.count (record_on q n next d bs) s.word)
          × LeadsToRecord s.count s.word p n d next (applied_all (record_on q n next d bs) s.word)
      write_decided q e = ((write_goes q e, power, write_taken q e), write_leads q e)
