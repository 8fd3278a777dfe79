-- What a step and a goal state of the whole task are in the projected one.
use Rattle.std.proofs.Common.{◌≡◌, ℕ, ◌<◌, Bool, List, [], ◌∷◌, length, sym, refl, ap, ◌∙◌, subst, arith}
use Rattle.std.specs.List.{AllByRecursion}
use Rattle.std.proofs.Math.ListN.{get_or-map}
use Rattle.std.proofs.lemmas.List.{length-map}
use Rattle.sas.specs.Model.{Model, Rules}
use Rattle.sas.specs.States.{State, Holds, Stands, Step, outcome, operator, idle}
use Rattle.sas.specs.declared.Fact.{Fact}
use Rattle.sas.proofs.Steps.{applies_is, step_is, goal_is}
use Rattle.projections.specs.Laws.{ProjectionLaws}
use Rattle.projections.specs.Projection.{only, kept_facts, projected, projected_action}
use Rattle.sas.proofs.Unranks.{rank_apart, rank_below, unrank}
use Rattle.projections.proofs.Edges.{rank_onto, state_onto}
use Rattle.projections.proofs.Only.{state_only}
use Rattle.projections.proofs.Kept.{kept_stand, kept_hold, kept_outcome}
use Rattle.projections.proofs.Shaping.{shaping}

-- an operator of the projected task is what is left of the one of that number
pub operator_projected : (keep : ℕ → Bool) (m : Model) (o : ℕ) → operator (projected keep m) o ≡ projected_action keep (operator m o)
unfolding projected
operator_projected keep m o = get_or-map (projected_action keep) m.operators o idle

pub operators_projected : (keep : ℕ → Bool) (m : Model) → length (projected keep m).operators ≡ length m.operators
unfolding projected
operators_projected keep m = length-map m.operators (projected_action keep)

pub sizes_projected : (keep : ℕ → Bool) (m : Model) → (projected keep m).sizes ≡ only keep m.sizes
unfolding projected
sizes_projected keep m = refl

pub goal_projected : (keep : ℕ → Bool) (m : Model) → (projected keep m).goal ≡ kept_facts keep m.goal
unfolding projected
goal_projected keep m = refl

no_effects : (fs : List Fact) (s : List ℕ) → (0 < length fs → ⊥) → outcome fs s ≡ s
unfolding outcome
no_effects [] s h = refl
no_effects (f ∷ fs) s h = absurd (h (omega arith))

module _ (keep : ℕ → Bool) (m : Model) where
  state_projected : (s : List ℕ) → State m.sizes s → State (projected keep m).sizes (only keep s)
  state_projected s h = subst (λ zs. State zs (only keep s)) (sym (sizes_projected keep m)) (state_only keep m.sizes s h)

  -- what is left of the outcome
  outcome_projected : (o : ℕ) (s t : List ℕ) → Step m o s t → only keep t ≡ outcome (operator (projected keep m) o).effects (only keep s)
  outcome_projected o s t d = ap (only keep) ((step_is m o s t).0 d).1 ∙ kept_outcome keep (operator m o).effects s ∙ sym (ap (λ a. outcome a.effects (only keep s)) (operator_projected keep m o))

  step_projected : (o : ℕ) (s t : List ℕ) → Step m o s t → Step (projected keep m) o (only keep s) (only keep t)
  step_projected o s t d =
      let parts = (applies_is m o s).0 ((step_is m o s t).0 d).0 in
      let numbered : o < length (projected keep m).operators = omega (arith, operators_projected keep m, parts.0) in
      let holding = subst (λ a. AllByRecursion (λ p. Holds p (only keep s)) a.preconditions) (sym (operator_projected keep m o)) (kept_hold keep s (operator m o).preconditions parts.2) in
      (step_is (projected keep m) o (only keep s) (only keep t)).1 ((applies_is (projected keep m) o (only keep s)).1 (numbered, state_projected s parts.1, holding), outcome_projected o s t d)

  pub projection_laws : Rules m → ProjectionLaws keep m
  projection_laws r = record {
    ranked = record {
      below = rank_below (projected keep m);
      apart = rank_apart (projected keep m).sizes;
      reached = λ k l. (unrank (projected keep m).sizes k, state_onto (projected keep m) (shaping keep m r) k, rank_onto (projected keep m) (shaping keep m r) k l);
    };
    states = state_projected;
    steps = λ o s t d remains. step_projected o s t d;
    stays = λ o s t d gone. outcome_projected o s t d ∙ no_effects (operator (projected keep m) o).effects (only keep s) gone;
    goals = λ s g.
        let parts = (goal_is m s).0 g in
        (goal_is (projected keep m) (only keep s)).1 (state_projected s parts.0, subst (AllByRecursion (λ f. Stands f (only keep s))) (sym (goal_projected keep m)) (kept_stand keep s m.goal parts.1));
  }
