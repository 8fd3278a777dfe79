-- Runs by operators that are allowed, and their costs.
use Rattle.std.specs.Prelude.{ℕ, ◌+◌, List, [], ◌∷◌}
use Rattle.sas.specs.Model.{Model}
use Rattle.sas.specs.States.{State, Step}

-- the operators os, each allowed and applying in the outcome of those before, lead from s to t
pub data Run (m : Model) (allowed : ℕ → Type 0) : List ℕ → List ℕ → List ℕ → Type 0 where
  stay : {s : List ℕ} → State m.sizes s → Run m allowed s [] s
  step : {o : ℕ} {s t u os : List ℕ} → allowed o → Step m o s t → Run m allowed t os u → Run m allowed s (o ∷ os) u

-- the sum of the costs of the operators os
abbrev pub cost : (ℕ → ℕ) → List ℕ → ℕ
cost each [] = 0
cost each (o ∷ os) = each o + cost each os
