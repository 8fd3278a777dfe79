-- When a session is opened, and why not.
use Rattle.std.specs.Prelude.{◌≡◌, ℕ, ◌<◌, List, length, Ok, Err, Result}
use Rattle.std.specs.List.{All}
use Rattle.sas.specs.Model.{Model}
use Rattle.sas.specs.States.{State}
use Rattle.session.specs.Bench.{bench, fresh}
use Rattle.session.specs.declared.session.Session.{Session}
use Rattle.session.specs.declared.session.refusal.Refusal.{Refusal}
use Rattle.session.specs.declared.session.refusal.Refusal.TheVariants.{NoSuch, CostTooHigh, StepUnderWay, Barred, Unmet, NoStep, OutsideGoal, Memory}

-- a cost for each operator, and the values of a state
abbrev pub Suits : Model → List ℕ → List ℕ → Type 0
Suits m costs values = (length costs ≡ length m.operators) × State m.sizes values

-- no cost is over 65,535
abbrev pub Payable : List ℕ → Type 0
Payable costs = All (λ c. c < 65536) costs

abbrev pub Unopened : Model → List ℕ → List ℕ → Refusal → Type 0
Unopened m costs values NoSuch = Suits m costs values → ⊥
Unopened m costs values CostTooHigh = Suits m costs values × (Payable costs → ⊥)
Unopened m costs values StepUnderWay = ⊥
Unopened m costs values Barred = ⊥
Unopened m costs values Unmet = ⊥
Unopened m costs values NoStep = ⊥
Unopened m costs values OutsideGoal = ⊥
Unopened m costs values Memory = Suits m costs values × Payable costs

abbrev pub Opened : Model → List ℕ → List ℕ → Result Session Refusal → Type 0
Opened m costs values (Ok s) = Suits m costs values × Payable costs × (bench s ≡ fresh m costs values)
Opened m costs values (Err e) = Unopened m costs values e
