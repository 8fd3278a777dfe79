-- A projected task keeps the rules, all but that there is a variable and an effect of every operator.
use Rattle.std.proofs.Common.{ℕ, ◌≤◌, Bool, length, arith}
use Rattle.std.proofs.ByRecursion.{All-map, All-weaker}
use Rattle.std.proofs.lemmas.List.{length-map}
use Rattle.sas.specs.Model.{Action, Model, ActionRules, Rules}
use Rattle.sas.proofs.Products.{positive}
use Rattle.projections.specs.Projection.{only, projected, projected_action}
use Rattle.projections.specs.Shapes.{Shaped, ShapedAction}
use Rattle.projections.proofs.Only.{length_only, place_low, all_only, product_only}
use Rattle.projections.proofs.Kept.{fact_of, kept_fewer, kept_facts_valued, kept_preconditions_valued, kept_facts_distinct, kept_preconditions_distinct}

module _ (keep : ℕ → Bool) (m : Model) (r : Rules m) where
  acting : (a : Action) → ActionRules m.sizes a → ShapedAction (only keep m.sizes) (projected_action keep a)
  acting a h = record {
    few_effects = omega (arith, kept_fewer (λ f. f.variable) fact_of keep a.effects, h.few_effects);
    preconditions_valued = kept_preconditions_valued keep m.sizes a.preconditions h.preconditions_valued;
    effects_valued = kept_facts_valued keep m.sizes a.effects h.effects_valued;
    preconditions_distinct = kept_preconditions_distinct keep a.preconditions h.preconditions_distinct;
    effects_distinct = kept_facts_distinct keep a.effects h.effects_distinct;
  }

  pub shaping : Shaped (projected keep m)
  unfolding projected
  shaping = record {
    few_variables = omega (arith, length_only keep m.sizes, place_low keep (length m.sizes), r.few_variables);
    sized = all_only (λ z. (2 ≤ z) × (z ≤ 16)) keep m.sizes r.sized;
    few_states = omega (arith, product_only keep m.sizes (positive m r), r.few_states);
    goal_valued = kept_facts_valued keep m.sizes m.goal r.goal_valued;
    few_operators = omega (arith, length-map m.operators (projected_action keep), r.few_operators);
    acting = All-map (ShapedAction (only keep m.sizes)) (projected_action keep) m.operators (All-weaker (ActionRules m.sizes) (λ a. ShapedAction (only keep m.sizes) (projected_action keep a)) acting m.operators r.acting);
  }
