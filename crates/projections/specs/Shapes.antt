-- What a projected task keeps of the rules: all but that there is a variable, and an effect of every operator.
use Rattle.std.specs.Prelude.{ℕ, ◌≤◌, List, map, length}
use Rattle.std.specs.List.{AllByRecursion}
use Rattle.sas.specs.Model.{Action, Model, Distinct, Valued, product}

pub record ShapedAction (sizes : List ℕ) (a : Action) : Type 0 where
  pub few_effects : length a.effects ≤ 8
  pub preconditions_valued : AllByRecursion (λ p. Valued sizes p.variable p.value) a.preconditions
  pub effects_valued : AllByRecursion (λ f. Valued sizes f.variable f.value) a.effects
  pub preconditions_distinct : Distinct (map (λ p. p.variable) a.preconditions)
  pub effects_distinct : Distinct (map (λ f. f.variable) a.effects)

pub record Shaped (p : Model) : Type 0 where
  pub few_variables : length p.sizes ≤ 16
  pub sized : AllByRecursion (λ z. (2 ≤ z) × (z ≤ 16)) p.sizes
  pub few_states : product p.sizes ≤ 1048576
  pub goal_valued : AllByRecursion (λ f. Valued p.sizes f.variable f.value) p.goal
  pub few_operators : length p.operators ≤ 128
  pub acting : AllByRecursion (ShapedAction p.sizes) p.operators
