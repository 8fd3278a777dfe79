-- Equality of tasks, as sets; and what equal tasks share.
use Rattle.std.specs.Prelude.{◌≡◌, ℕ, ◌<◌, List, length}
use Rattle.std.specs.List.{ContainsAt}
use Rattle.sas.specs.Model.{Action, Model}
use Rattle.sas.specs.States.{State, Step, Goal, operator}
use Rattle.sas.specs.Ranks.{states, rank}

-- the same elements, in whatever order and however often
abbrev pub SameSet : {X : Type 0} → List X → List X → Type 0
SameSet {X} xs ys = ((x : X) → ContainsAt xs x → ContainsAt ys x) × ((x : X) → ContainsAt ys x → ContainsAt xs x)

pub record SameAction (a b : Action) : Type 0 where
  pub preconditions : SameSet a.preconditions b.preconditions
  pub effects : SameSet a.effects b.effects

pub record Same (m n : Model) : Type 0 where
  pub sizes : m.sizes ≡ n.sizes
  pub goal : SameSet m.goal n.goal
  pub count : length m.operators ≡ length n.operators
  pub actions : (o : ℕ) → o < length m.operators → SameAction (operator m o) (operator n o)

-- the same states, ranks, steps and goal states
pub record Alike (m n : Model) : Type 0 where
  pub count : states m ≡ states n
  pub state : (s : List ℕ) → State m.sizes s → State n.sizes s
  pub ranks : (s : List ℕ) → rank m.sizes s ≡ rank n.sizes s
  pub step : (o : ℕ) (s t : List ℕ) → Step m o s t → Step n o s t
  pub goal : (s : List ℕ) → Goal m s → Goal n s
