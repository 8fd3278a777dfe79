-- Tasks that are equal as sets have the same states, ranks, steps and goal states.
use Rattle.std.proofs.Common.{◌≡◌, ℕ, ◌<◌, List, length, sym, ap, ◌∙◌, subst, arith}
use Rattle.std.specs.List.{ContainsAt, AllByRecursion}
use Rattle.std.proofs.ByRecursion.{all-has, all_has_itself, All-weaker}
use Rattle.sas.specs.Model.{Model, Rules, product}
use Rattle.sas.specs.States.{State, Holds, Stands, Applies, Step, Goal, operator}
use Rattle.sas.specs.Ranks.{rank, states}
use Rattle.sas.specs.Same.{Same, Alike}
use Rattle.sas.proofs.Outcomes.{outcome_same}
use Rattle.sas.proofs.Steps.{applies_is, step_is, goal_is, acting_at, effects_inside}

-- what holds of each element holds of each that another list has too
pub all_same : {X : Type 0} (P : X → Type 0) (xs ys : List X) → ((x : X) → ContainsAt ys x → ContainsAt xs x) → AllByRecursion P xs → AllByRecursion P ys
all_same P xs ys from h = All-weaker (ContainsAt ys) P (λ y has. all-has P xs y h (from y has)) ys (all_has_itself ys)

states_same : (m n : Model) → m.sizes ≡ n.sizes → states m ≡ states n
unfolding states
states_same m n e = ap product e

pub same_back : (m n : Model) → Same m n → Same n m
same_back m n same = record {
  sizes = sym same.sizes;
  goal = (same.goal.1, same.goal.0);
  count = sym same.count;
  actions = λ o l. let a = same.actions o (omega (arith, l, same.count)) in record { preconditions = (a.preconditions.1, a.preconditions.0); effects = (a.effects.1, a.effects.0) };
}

module _ (m n : Model) (rm : Rules m) (rn : Rules n) (same : Same m n) where
  numbered : (o : ℕ) → o < length m.operators → o < length n.operators
  numbered o l = omega (arith, l, same.count)

  applies_same : (o : ℕ) (s : List ℕ) → Applies m o s → Applies n o s
  applies_same o s a =
      let parts = (applies_is m o s).0 a in
      (applies_is n o s).1 (
        numbered o parts.0,
        subst (λ z. State z s) same.sizes parts.1,
        all_same (λ p. Holds p s) (operator m o).preconditions (operator n o).preconditions (same.actions o parts.0).preconditions.1 parts.2,
      )

  step_same : (o : ℕ) (s t : List ℕ) → Step m o s t → Step n o s t
  step_same o s t d =
      let parts = (step_is m o s t).0 d in
      let on_m = (applies_is m o s).0 parts.0 in
      let on_n = (applies_is n o s).0 (applies_same o s parts.0) in
      let am = acting_at m rm o on_m.0 in
      let an = acting_at n rn o on_n.0 in
      let set = (same.actions o on_m.0).effects in
      let is = outcome_same (operator m o).effects (operator n o).effects s set.0 set.1 am.effects_distinct an.effects_distinct
      (effects_inside m rm o s parts.0) (effects_inside n rn o s (applies_same o s parts.0)) in
      (step_is n o s t).1 (applies_same o s parts.0, parts.1 ∙ is)

  goal_same : (s : List ℕ) → Goal m s → Goal n s
  goal_same s g =
      let parts = (goal_is m s).0 g in
      (goal_is n s).1 (subst (λ z. State z s) same.sizes parts.0, all_same (λ f. Stands f s) m.goal n.goal same.goal.1 parts.1)

  pub alike : Alike m n
  alike = record {
    count = states_same m n same.sizes;
    state = λ s h. subst (λ z. State z s) same.sizes h;
    ranks = λ s. ap (λ z. rank z s) same.sizes;
    step = step_same;
    goal = goal_same;
  }
