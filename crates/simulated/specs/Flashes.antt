-- What a simulated flash says of itself.
--     held x             its bytes, power and rehearsal numbers
--     simulation form    its kind number and meaning, and to the byte what commands and a return of power do
use Rattle.std.specs.Prelude.{◌≡◌, ◌<◌, vec_items}
use Rattle.flash.specs.Rules.{Model}
use Rattle.simulated.specs.declared.Simulated.{Simulated}
use Rattle.formats.specs.Forms.{Form}
use Rattle.simulated.specs.Rehearsed.{Held, meant, after, broken, resumed}

-- what a caller may know of its value
abbrev pub held : {F : Type 0} → Simulated F → Held
held x = record { bytes = vec_items x.memory; power = x.power; rehearsal = x.rehearsal }

-- a command is done only with rehearsed commands left, and stopped only with none left
abbrev pub simulation : {F : Type 0} → Form → Model (Simulated F)
simulation form = record {
  kind = form.kind;
  meaning = λ x. meant form (held x);
  did = λ c x y. (0 < (held x).rehearsal.commands) × (held y ≡ after form c (held x));
  lost = λ c x y. ((held x).rehearsal.commands ≡ 0) × (held y ≡ broken form c (held x));
  returned = λ rehearsal x y. held y ≡ resumed rehearsal (held x);
}
