-- The rules of a model are one proposition, so that the truncated fact gives them.
use Rattle.std.proofs.Common.{◌≡◌, ℕ, List, [], ◌∷◌, map}
use mathlib.Core.Logic.{∥∥₁_elim}
use denote.Struct.Props.{props}
use native.Mathlib.Bridge.{le_prop}
use Rattle.std.specs.List.{AllByRecursion}
use Rattle.sas.specs.Model.{Action, Model, Distinct, Valued, ActionRules, Rules}

-- what holds of each element is a proposition where it is one of each
pub all_prop : {X : Type 0} (P : X → Type 0) → ((x : X) → IsProp (P x)) → (xs : List X) → IsProp (AllByRecursion P xs)
all_prop P h [] a b = λ i. tt
all_prop P h (x ∷ xs) a b = λ i. (h x a.0 b.0 i, all_prop P h xs a.1 b.1 i)

pub valued_prop : (sizes : List ℕ) (v x : ℕ) → IsProp (Valued sizes v x)
valued_prop sizes v x a b = λ i. (le_prop a.0 b.0 i, le_prop a.1 b.1 i)

differs_prop : (x y : ℕ) → IsProp (x ≡ y → ⊥)
differs_prop x y = hlevel props

pub distinct_prop : (xs : List ℕ) → IsProp (Distinct xs)
distinct_prop [] a b = λ i. tt
distinct_prop (x ∷ xs) a b = λ i. (all_prop (λ y. x ≡ y → ⊥) (differs_prop x) xs a.0 b.0 i, distinct_prop xs a.1 b.1 i)

action_prop : (sizes : List ℕ) (a : Action) → IsProp (ActionRules sizes a)
action_prop sizes a p q = λ i. record {
  few_preconditions = le_prop p.few_preconditions q.few_preconditions i;
  some_effects = le_prop p.some_effects q.some_effects i;
  few_effects = le_prop p.few_effects q.few_effects i;
  preconditions_valued = all_prop (λ f. Valued sizes f.variable f.value) (λ f. valued_prop sizes f.variable f.value) a.preconditions p.preconditions_valued q.preconditions_valued i;
  effects_valued = all_prop (λ f. Valued sizes f.variable f.value) (λ f. valued_prop sizes f.variable f.value) a.effects p.effects_valued q.effects_valued i;
  preconditions_distinct = distinct_prop (map (λ f. f.variable) a.preconditions) p.preconditions_distinct q.preconditions_distinct i;
  effects_distinct = distinct_prop (map (λ f. f.variable) a.effects) p.effects_distinct q.effects_distinct i;
}

rules_prop : (m : Model) → IsProp (Rules m)
rules_prop m p q = λ i. record {
  some_variables = le_prop p.some_variables q.some_variables i;
  few_variables = le_prop p.few_variables q.few_variables i;
  sized = all_prop _ (λ z a b. λ j. (le_prop a.0 b.0 j, le_prop a.1 b.1 j)) m.sizes p.sized q.sized i;
  few_states = le_prop p.few_states q.few_states i;
  goal_valued = all_prop (λ f. Valued m.sizes f.variable f.value) (λ f. valued_prop m.sizes f.variable f.value) m.goal p.goal_valued q.goal_valued i;
  goal_distinct = distinct_prop (map (λ f. f.variable) m.goal) p.goal_distinct q.goal_distinct i;
  few_operators = le_prop p.few_operators q.few_operators i;
  acting = all_prop (ActionRules m.sizes) (action_prop m.sizes) m.operators p.acting q.acting i;
}

pub rules : (m : Model) → ∥ Rules m ∥₁ → Rules m
rules m h = ∥∥₁_elim h (rules_prop m) (λ r. r)
