-- The numbers of refusals; want of memory has none.
use Rattle.std.specs.Prelude.{ℕ, Some, None, Option}
use Rattle.session.specs.declared.session.refusal.Refusal.{Refusal}
use Rattle.session.specs.declared.session.refusal.Refusal.TheVariants.{NoSuch, CostTooHigh, StepUnderWay, Barred, Unmet, NoStep, OutsideGoal, Memory}

abbrev pub number_of : Refusal → Option ℕ
number_of NoSuch = Some 10
number_of CostTooHigh = Some 11
number_of StepUnderWay = Some 12
number_of Barred = Some 13
number_of Unmet = Some 14
number_of NoStep = Some 15
number_of OutsideGoal = Some 22
number_of Memory = None
