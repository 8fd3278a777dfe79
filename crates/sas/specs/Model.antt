-- What a planning task is: variables with finitely many values, a goal, and operators; and the rules of a bench's tasks.
use Rattle.std.specs.Prelude.{ℕ, ◌*◌, ◌<◌, ◌≤◌, List, [], ◌∷◌, map, length, ◌≢◌, slice_index}
use Rattle.std.specs.List.{AllByRecursion}
use Rattle.sas.specs.declared.Precondition.{Precondition}
use Rattle.sas.specs.declared.Fact.{Fact}

-- an operator
pub record Action : Type 0 where
  pub preconditions : List Precondition
  pub effects : List Fact

-- a task: how many values each variable has, what the goal asks, and the operators; all are numbered from 0
pub record Model : Type 0 where
  pub sizes : List ℕ
  pub goal : List Fact
  pub operators : List Action

abbrev pub product : List ℕ → ℕ
product [] = 1
product (x ∷ xs) = x * product xs

-- no number twice
abbrev pub Distinct : List ℕ → Type 0
Distinct [] = Unit {0}
Distinct (x ∷ xs) = AllByRecursion (λ y. x ≢ y) xs × Distinct xs

-- v is a variable, and x is one of its values
abbrev pub Valued : List ℕ → ℕ → ℕ → Type 0
Valued sizes v x = (v < length sizes) × (x < slice_index sizes v)

pub record ActionRules (sizes : List ℕ) (a : Action) : Type 0 where
  pub few_preconditions : length a.preconditions ≤ 8
  pub some_effects : 1 ≤ length a.effects
  pub few_effects : length a.effects ≤ 8
  pub preconditions_valued : AllByRecursion (λ p. Valued sizes p.variable p.value) a.preconditions
  pub effects_valued : AllByRecursion (λ f. Valued sizes f.variable f.value) a.effects
  pub preconditions_distinct : Distinct (map (λ p. p.variable) a.preconditions)
  pub effects_distinct : Distinct (map (λ f. f.variable) a.effects)

-- the rules that every task of a bench keeps
pub record Rules (m : Model) : Type 0 where
  pub some_variables : 1 ≤ length m.sizes
  pub few_variables : length m.sizes ≤ 16
  pub sized : AllByRecursion (λ z. (2 ≤ z) × (z ≤ 16)) m.sizes
  pub few_states : product m.sizes ≤ 1048576
  pub goal_valued : AllByRecursion (λ f. Valued m.sizes f.variable f.value) m.goal
  pub goal_distinct : Distinct (map (λ f. f.variable) m.goal)
  pub few_operators : length m.operators ≤ 128
  pub acting : AllByRecursion (ActionRules m.sizes) m.operators
