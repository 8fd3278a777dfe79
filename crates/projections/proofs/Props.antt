-- What a projection keeps of its parts is one proposition, so that the truncated facts give it.
use Rattle.std.proofs.Common.{ℕ, ◌≤◌, List, map}
use mathlib.Core.Logic.{∥∥₁_elim}
use native.Mathlib.Bridge.{le_prop}
use Rattle.sas.specs.Model.{Action, Model, Valued}
use Rattle.sas.proofs.Rules.{all_prop, valued_prop, distinct_prop}
use Rattle.projections.specs.Shapes.{Shaped, ShapedAction}

sized_prop : (z : ℕ) → IsProp ((2 ≤ z) × (z ≤ 16))
sized_prop z a b = λ j. (le_prop a.0 b.0 j, le_prop a.1 b.1 j)

action_prop : (sizes : List ℕ) (a : Action) → IsProp (ShapedAction sizes a)
action_prop sizes a p q = λ i. record {
  few_effects = le_prop p.few_effects q.few_effects i;
  preconditions_valued = all_prop (λ f. Valued sizes f.variable f.value) (λ f. valued_prop sizes f.variable f.value) a.preconditions p.preconditions_valued q.preconditions_valued i;
  effects_valued = all_prop (λ f. Valued sizes f.variable f.value) (λ f. valued_prop sizes f.variable f.value) a.effects p.effects_valued q.effects_valued i;
  preconditions_distinct = distinct_prop (map (λ f. f.variable) a.preconditions) p.preconditions_distinct q.preconditions_distinct i;
  effects_distinct = distinct_prop (map (λ f. f.variable) a.effects) p.effects_distinct q.effects_distinct i;
}

shaped_prop : (p : Model) → IsProp (Shaped p)
shaped_prop p a b = λ i. record {
  few_variables = le_prop a.few_variables b.few_variables i;
  sized = all_prop _ sized_prop p.sizes a.sized b.sized i;
  few_states = le_prop a.few_states b.few_states i;
  goal_valued = all_prop (λ f. Valued p.sizes f.variable f.value) (λ f. valued_prop p.sizes f.variable f.value) p.goal a.goal_valued b.goal_valued i;
  few_operators = le_prop a.few_operators b.few_operators i;
  acting = all_prop (ShapedAction p.sizes) (action_prop p.sizes) p.operators a.acting b.acting i;
}

pub shaped : (p : Model) → ∥ Shaped p ∥₁ → Shaped p
shaped p h = ∥∥₁_elim h (shaped_prop p) (λ r. r)
