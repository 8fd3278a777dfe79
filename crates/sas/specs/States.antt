-- States, where an operator applies, what it makes of a state, and where the goal holds.
use Rattle.std.specs.Prelude.{◌≡◌, ℕ, ◌<◌, List, [], ◌∷◌, length, slice_index, slice_index_or, slice_set}
use Rattle.std.specs.List.{AllByRecursion}
use Rattle.sas.specs.declared.Precondition.{Precondition}
use Rattle.sas.specs.declared.Fact.{Fact}
use Rattle.sas.specs.Model.{Action, Model}

-- a state gives each variable one of its values
abbrev pub State : List ℕ → List ℕ → Type 0
State sizes s = (length s ≡ length sizes) × ((v : ℕ) → v < length sizes → slice_index s v < slice_index sizes v)

-- the operator numbered o; past the last one, one that asks and does nothing
abbrev pub idle : Action
idle = record { preconditions = []; effects = [] }

abbrev pub operator : Model → ℕ → Action
operator m o = slice_index_or m.operators o idle

unfoldable pub Holds : Precondition → List ℕ → Type 0
Holds p s = slice_index s p.variable ≡ p.value

unfoldable pub Stands : Fact → List ℕ → Type 0
Stands f s = slice_index s f.variable ≡ f.value

-- o is an operator whose preconditions hold in the state s
unfoldable pub Applies : Model → ℕ → List ℕ → Type 0
Applies m o s = (o < length m.operators) × State m.sizes s × AllByRecursion (λ p. Holds p s) (operator m o).preconditions

-- s with the effects put in, and every other value kept
unfoldable pub outcome : List Fact → List ℕ → List ℕ
outcome [] s = s
outcome (f ∷ fs) s = outcome fs (slice_set s f.variable f.value)

-- o applies in s, and t is the outcome
unfoldable pub Step : Model → ℕ → List ℕ → List ℕ → Type 0
Step m o s t = Applies m o s × (t ≡ outcome (operator m o).effects s)

-- a goal state has every value that the goal gives
unfoldable pub Goal : Model → List ℕ → Type 0
Goal m s = State m.sizes s × AllByRecursion (λ f. Stands f s) m.goal
