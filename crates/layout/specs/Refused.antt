-- What a caller sees of a plan that cannot be made.
--     plan_number f      the number of the refusal
--     plan_seen f        what a caller sees of it
use Rattle.std.specs.Prelude.{ℕ}
use Rattle.flash.specs.declared.fault.Report.{Report}
use Rattle.flash.specs.declared.fault.Layer.TheVariants.{Unit as OfUnit}
use Rattle.layout.specs.declared.plan.PlanFault.{PlanFault}
use Rattle.layout.specs.declared.plan.PlanFault.TheVariants.{OutOfRange}

-- a count or a size outside its range
abbrev pub plan_number : PlanFault → ℕ
plan_number OutOfRange = 16

-- of the unit's layer, with no place
abbrev pub plan_seen : PlanFault → Report
plan_seen f = record { number = plan_number f; layer = OfUnit; kind = 0; place = record { block = record { 0 = 0 }; word = 0 } }
