-- Lists of commands that are tried one after another.
use Rattle.std.proofs.Common.{◌≡◌, ℕ, List, [], ◌∷◌, ◌++◌, Ok, Err, Result, sym, refl, subst, inl, inr, arith}
use Rattle.flash.specs.declared.fault.FlashFault.{FlashFault}
use Rattle.flash.specs.Commands.{Command}
use Rattle.flash.specs.Rules.{Model, Obeys}
use Rattle.flash.specs.Lists.{Tried}

ok≢err : {x : Unit {0}} {f : FlashFault} → ◌≡◌ {A = Result (Unit {0}) FlashFault} (Ok x) (Err f) → ⊥
ok≢err p = let z : ◌≡◌ {A = ℕ} 0 1 = cc in omega arith

module _ {F : Type 0} (model : Model F) where
  -- one command, and then a list; or nothing after one that is not done
  pub one_then : (c : Command) (cs : List Command) (x z y : F) (u : Unit {0}) (r : Result (Unit {0}) FlashFault)
      → Obeys model c x (Ok u) z → Tried model cs z r y → Tried model (c ∷ cs) x r y
  one_then c cs x z y u r o t = inl (z, o, t)

  pub one_stop : (c : Command) (cs : List Command) (x y : F) (f : FlashFault) → Obeys model c x (Err f) y → Tried model (c ∷ cs) x (Err f) y
  one_stop c cs x y f o = inr (f, refl, o)

  -- a command alone
  pub one_last : (c : Command) (x y : F) (r : Result (Unit {0}) FlashFault) → Obeys model c x r y → Tried model (c ∷ []) x r y
  one_last c x y (Ok u) o = inl (y, o, (refl, refl))
  one_last c x y (Err f) o = inr (f, refl, o)

  -- a list, and then another; or nothing after one that is not done
  pub tried_then : (xs ys : List Command) (x z y : F) (u : Unit {0}) (r : Result (Unit {0}) FlashFault)
      → Tried model xs x (Ok u) z → Tried model ys z r y → Tried model (xs ++ ys) x r y
  tried_then [] ys x z y u r h t = subst (λ (v : F). Tried model ys v r y) h.1 t
  tried_then (c ∷ xs) ys x z y u r (inl h) t = inl (h.0, h.1, tried_then xs ys h.0 z y u r h.2 t)
  tried_then (c ∷ xs) ys x z y u r (inr h) t = absurd (ok≢err h.1)

  pub tried_stop : (xs ys : List Command) (x y : F) (f : FlashFault) → Tried model xs x (Err f) y → Tried model (xs ++ ys) x (Err f) y
  tried_stop [] ys x y f h = absurd (ok≢err (sym h.0))
  tried_stop (c ∷ xs) ys x y f (inl h) = inl (h.0, h.1, tried_stop xs ys h.0 y f h.2)
  tried_stop (c ∷ xs) ys x y f (inr h) = inr h
