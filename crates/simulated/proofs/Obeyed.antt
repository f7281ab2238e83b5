-- A simulated flash that does exactly what its rehearsal says keeps the flash rules.
use Rattle.std.proofs.Common.{◌≡◌, ℕ, zero, suc, ◌^◌, ◌<◌, ◌≤◌, Bool, true, false, cond, ◌&&◌, eqb, ltb, ◌⊎◌, List, length, Some, None, Ok, Err, Option, Result, sym, refl, ap, ◌∙◌, subst, inl, inr, arith}
use Rattle.std.proofs.lemmas.Bool.{cases_Bool, cases_lt, cond-true, cond-false, ltb-true, ltb-false}
use Rattle.std.proofs.lemmas.Bool.Decides.{nat_tests}
use Rattle.flash.specs.declared.fault.FlashFault.{FlashFault}
use Rattle.flash.specs.State.{State, Memory, Word4, put, wipe, fade, powered}
use Rattle.flash.specs.Commands.{Command, unwritten, verdict, done, Stopped, loss}
use Rattle.flash.specs.Rules.{Obeys}
use Rattle.flash.proofs.Carried.{same_state, allowed_ok}
use Rattle.simulated.specs.declared.Simulated.{Simulated}
use Rattle.formats.specs.Bytes.{bit}
use Rattle.formats.specs.Forms.{Form, Lawful, blocks, blocks_of}
use Rattle.simulated.specs.Rehearsed.{Held, meant, blanked, after, broken, answered, leaves, Exact}
use Rattle.simulated.specs.Flashes.{held, simulation}
use Rattle.simulated.proofs.Blanked.{blanked_none, blanked_suc}
use Rattle.formats.specs.Digits.{all_at}

unwritten_blank : (k b w : ℕ) (o : Option ℕ) → unwritten k b w o ≡ Ok tt → o ≡ None
unwritten_blank k b w None h = refl
unwritten_blank k b w (Some v) h = let z : ◌≡◌ {A = ℕ} 0 1 = cc in absurd (omega arith)

-- the words below k of a block made blank where they are marked: one more of them, and none
abbrev below : (ℕ → Bool) → ℕ → ℕ → Bool
below f k x = ltb x k && f x

one_more : (f : ℕ → Bool) (m : Memory) (b k c x : ℕ) → f k ≡ true → put (fade m b (below f k)) b k None c x ≡ fade m b (below f (suc k)) c x
one_more f m b k c x h = grind (arith, nat_tests)

one_left : (f : ℕ → Bool) (m : Memory) (b k c x : ℕ) → f k ≡ false → fade m b (below f k) c x ≡ fade m b (below f (suc k)) c x
one_left f m b k c x h = grind (arith, nat_tests)

none_yet : (f : ℕ → Bool) (m : Memory) (b c x : ℕ) → m c x ≡ fade m b (below f 0) c x
none_yet f m b c x = grind (arith, nat_tests)

module _ (form : Form) (law : Lawful form) where
  abbrev state : Bool → List ℕ → State
  state p m = record { count = blocks form m; power = p; word = form.word m }

  state_put : (m : List ℕ) (b w : ℕ) (v : Option ℕ) (p : Bool) → b < blocks form m → w < 16 → Word4 v
      → state p (form.put_word m b w v) ≡ powered p (state p m) (put (form.word m) b w v)
  state_put m b w v p hb hw h4 =
      ap (λ l. record { count = blocks_of form.size l; power = p; word = form.word (form.put_word m b w v) }) (law.keeps m b w v)
      ∙ same_state _ _ refl refl (law.reads m b w v hb hw h4)

  length_blanked : (m : List ℕ) (b marks k : ℕ) → length (blanked form m b marks k) ≡ length m
  length_blanked m b marks zero = ap length (blanked_none form m b marks)
  length_blanked m b marks (suc k) =
      let h = length_blanked m b marks k in
      let ws = blanked form m b marks k in
      ap length (blanked_suc form m b marks k)
      ∙ elim (bit marks k) as (λ t. length (cond t (form.put_word ws b k None) ws) ≡ length m) [ true ↦ law.keeps ws b k None ∙ h | false ↦ h ]

  word_blanked : (m : List ℕ) (b marks k : ℕ) → b < blocks form m → k ≤ 16 → (c x : ℕ) → form.word (blanked form m b marks k) c x ≡ fade (form.word m) b (below (bit marks) k) c x
  word_blanked m b marks zero hb hk c x = ap (λ z. form.word z c x) (blanked_none form m b marks) ∙ none_yet (bit marks) (form.word m) b c x
  word_blanked m b marks (suc k) hb hk c x =
      let ws = blanked form m b marks k in
      let h = word_blanked m b marks k hb (omega arith) in
      let hb' : b < blocks form ws = rw (length_blanked m b marks k) hb in
      ap (λ z. form.word z c x) (blanked_suc form m b marks k)
      ∙ elim (cases_Bool (bit marks k)) [
        | inl e ↦ ap (λ z. form.word z c x) (cond-true (bit marks k) (form.put_word ws b k None) ws e)
            ∙ law.reads ws b k None hb' hk tt c x ∙ ap (λ y. cond (eqb b c && eqb k x) None y) (h c x) ∙ one_more (bit marks) (form.word m) b k c x e
        | inr e ↦ ap (λ z. form.word z c x) (cond-false (bit marks k) (form.put_word ws b k None) ws e)
            ∙ h c x ∙ one_left (bit marks) (form.word m) b k c x e
      ]

  state_blanked : (m : List ℕ) (b marks : ℕ) (words : Memory) (p : Bool) → b < blocks form m
      → ((c x : ℕ) → fade (form.word m) b (below (bit marks) 16) c x ≡ words c x)
      → state p (blanked form m b marks 16) ≡ powered p (state p m) words
  state_blanked m b marks words p hb h =
      ap (λ l. record { count = blocks_of form.size l; power = p; word = form.word (blanked form m b marks 16) }) (length_blanked m b marks 16)
      ∙ same_state _ _ refl refl (λ c x. word_blanked m b marks 16 hb (omega arith) c x ∙ h c x)

  -- all 16 bits of FFFF are 1, and no word stands above 15
  all_faded : (m : List ℕ) (b : ℕ) → b < blocks form m → (c x : ℕ) → fade (form.word m) b (below (bit 0xFFFF) 16) c x ≡ wipe (form.word m) b c x
  all_faded m b hb c x =
      elim (cases_lt x 16) [
        | inl l ↦ let e = all_at 16 (bit 0xFFFF) refl x l in let t : ltb x 16 ≡ true = grind (arith, nat_tests) in grind (arith, nat_tests)
        | inr l ↦ let e : form.word m c x ≡ None = law.outside m c x (grind (arith, nat_tests)) in grind (arith, nat_tests)
      ]

  -- the values of a command and the manner have four bytes
  abbrev pub Fits4 : Command → ℕ → Type 0
  Fits4 (Command.program b w v) manner = (v < 2 ^ 32) × (manner < 2 ^ 32)
  Fits4 (Command.erase b) manner = Unit {0}

  meant_done : (c : Command) (h : Held) → Fits4 c h.rehearsal.manner → verdict form.kind c (meant form h) ≡ Ok tt → meant form (after form c h) ≡ done c (meant form h)
  meant_done (Command.program b w v) h f e =
      let a = allowed_ok form.kind (meant form h) b w (unwritten form.kind b w (form.word h.bytes b w)) tt e in
      state_put h.bytes b w (Some v) h.power a.1 a.2 f.0
  meant_done (Command.erase b) h f e =
      let a = allowed_ok form.kind (meant form h) b 0 (Ok tt) tt e in
      state_blanked h.bytes b 0xFFFF (wipe (form.word h.bytes) b) h.power a.1 (all_faded h.bytes b a.1)

  stays_blank : (m : Memory) (b w : ℕ) → m b w ≡ None → (c x : ℕ) → m c x ≡ put m b w None c x
  stays_blank m b w h c x = grind (arith, nat_tests)

  meant_stopped : (c : Command) (h : Held) → Fits4 c h.rehearsal.manner → verdict form.kind c (meant form h) ≡ Ok tt → Stopped c (meant form h) (meant form (broken form c h))
  meant_stopped (Command.program b w v) h f e =
      let a = allowed_ok form.kind (meant form h) b w (unwritten form.kind b w (form.word h.bytes b w)) tt e in
      let manner = h.rehearsal.manner in
      stop (eqb manner 0) (cond (eqb manner 1) v manner) (elim (eqb manner 1) as (λ t. cond t v manner < 2 ^ 32) [ true ↦ f.0 | false ↦ f.1 ]) a.1 a.2 (unwritten_blank form.kind b w (form.word h.bytes b w) a.3)
    where
      stop : (t : Bool) (y : ℕ) → y < 2 ^ 32 → b < blocks form h.bytes → w < 16 → form.word h.bytes b w ≡ None
          → (left : Option ℕ) × Word4 left × (state false (cond t h.bytes (form.put_word h.bytes b w (Some y))) ≡ powered false (meant form h) (put (form.word h.bytes) b w left))
      stop true y hy hb hw e = (None, tt, same_state _ _ refl refl (stays_blank (form.word h.bytes) b w e))
      stop false y hy hb hw e = (Some y, hy, state_put h.bytes b w (Some y) false hb hw hy)
  meant_stopped (Command.erase b) h f e =
      let a = allowed_ok form.kind (meant form h) b 0 (Ok tt) tt e in
      (below (bit h.rehearsal.manner) 16, state_blanked h.bytes b h.rehearsal.manner (fade (form.word h.bytes) b (below (bit h.rehearsal.manner) 16)) false a.1 (λ _ _. refl))

  pub obeyed : {F : Type 0} (c : Command) (x y : Simulated F) (r : Result (Unit {0}) FlashFault) → Fits4 c x.rehearsal.manner
      → Exact form c (held x) r (held y) → ((f : FlashFault) → verdict form.kind c (meant form (held x)) ≡ Err f → y ≡ x)
      → Obeys (simulation form) c x r y
  obeyed c x y r f exact same = go (verdict form.kind c (meant form (held x))) refl exact.answer exact.holds
    where
      go : (v : Result (Unit {0}) FlashFault) → verdict form.kind c (meant form (held x)) ≡ v → r ≡ answered form c (held x) v → held y ≡ leaves form c (held x) v → Obeys (simulation form) c x r y
      go (Err d) e p q = rw p (inl (e, same d e))
      go (Ok _) e p q = by (cases_Bool (ltb 0 x.rehearsal.commands))
        where
          by : (ltb 0 x.rehearsal.commands ≡ true) ⊎ (ltb 0 x.rehearsal.commands ≡ false) → Obeys (simulation form) c x r y
          by (inl t) =
              let p' : r ≡ Ok tt = p ∙ cond-true _ _ _ t in
              let q' : held y ≡ after form c (held x) = q ∙ cond-true _ _ _ t in
              rw p' (e, ap (meant form) q' ∙ meant_done c (held x) f e, (ltb-true _ _ t, q'))
          by (inr t) =
              let p' : r ≡ Err (loss form.kind c) = p ∙ cond-false _ _ _ t in
              let q' : held y ≡ broken form c (held x) = q ∙ cond-false _ _ _ t in
              let z : x.rehearsal.commands ≡ 0 = omega (arith, ltb-false) in
              rw p' (inr (refl, (e, subst (Stopped c (meant form (held x))) (sym (ap (meant form) q')) (meant_stopped c (held x) f e), (z, q'))))
