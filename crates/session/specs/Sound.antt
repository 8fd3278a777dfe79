-- What always holds of a session's step.
use Rattle.std.specs.Prelude.{◌≡◌, ℕ, ◌<◌, List, Some, Option}
use Rattle.sas.specs.Model.{Model}
use Rattle.sas.specs.States.{Applies}

-- the step's operator is one of n
abbrev pub Known : Option ℕ → ℕ → Type 0
Known step n = (o : ℕ) → step ≡ Some o → o < n

-- the step's operator applies in the state
abbrev pub Ready : Option ℕ → Model → List ℕ → Type 0
Ready step m s = (o : ℕ) → step ≡ Some o → Applies m o s
