-- The laws of steps and of goal states.
use Rattle.std.proofs.Common.{◌≡◌, ℕ, ◌<◌, Bool, ◌↔◌, List, [], ◌∷◌, length, get_or, Decides, sym, ◌∙◌, subst, arith}
use Rattle.std.specs.List.{AllByRecursion}
use Rattle.std.proofs.ByRecursion.{All-get_or, All-weaker}
use Rattle.sas.specs.declared.Fact.{Fact}
use Rattle.sas.specs.declared.Precondition.{Precondition}
use Rattle.sas.specs.Model.{Model, ActionRules, Rules, Valued}
use Rattle.sas.specs.States.{State, Holds, Stands, Applies, Step, Goal, outcome, operator, idle}
use Rattle.sas.specs.Laws.{StepLaws}
use Rattle.sas.proofs.Outcomes.{outcome_keeps, outcome_stands, outcome_state, outside_from_has}

-- what the words say
pub holds_is : (p : Precondition) (s : List ℕ) → Holds p s ↔ (get_or s p.variable 0 ≡ p.value)
unfolding Holds
holds_is p s = (λ h. h, λ h. h)

pub stands_is : (f : Fact) (s : List ℕ) → Stands f s ↔ (get_or s f.variable 0 ≡ f.value)
unfolding Stands
stands_is f s = (λ h. h, λ h. h)

pub applies_is : (m : Model) (o : ℕ) (s : List ℕ) → Applies m o s ↔ ((o < length m.operators) × State m.sizes s × AllByRecursion (λ p. Holds p s) (operator m o).preconditions)
unfolding Applies
applies_is m o s = (λ h. h, λ h. h)

pub step_is : (m : Model) (o : ℕ) (s t : List ℕ) → Step m o s t ↔ (Applies m o s × (t ≡ outcome (operator m o).effects s))
unfolding Step
step_is m o s t = (λ h. h, λ h. h)

pub goal_is : (m : Model) (s : List ℕ) → Goal m s ↔ (State m.sizes s × AllByRecursion (λ f. Stands f s) m.goal)
unfolding Goal
goal_is m s = (λ h. h, λ h. h)

-- the rules of the operator that is numbered
pub acting_at : (m : Model) → Rules m → (o : ℕ) → o < length m.operators → ActionRules m.sizes (operator m o)
acting_at m r o l = All-get_or (ActionRules m.sizes) m.operators o idle l r.acting

-- variables with values are places of a state
pub places : {X : Type 0} (variable value : X → ℕ) (sizes s : List ℕ) (xs : List X) → State sizes s → AllByRecursion (λ x. Valued sizes (variable x) (value x)) xs → AllByRecursion (λ x. variable x < length s) xs
places variable value sizes s xs h w = All-weaker (λ x. Valued sizes (variable x) (value x)) (λ x. variable x < length s) (λ x l. omega (arith, l.0, h.0)) xs w

-- what is asked of values that are there
with_places : {X : Type 0} (P Q : X → Type 0) (xs : List X) → AllByRecursion Q xs → AllByRecursion P xs → AllByRecursion (λ x. Q x × P x) xs
with_places P Q [] q p = tt
with_places P Q (x ∷ xs) q p = ((q.0, p.0), with_places P Q xs q.1 p.1)

decides_placed : {X : Type 0} (P Q : X → Type 0) (xs : List X) (b : Bool) → AllByRecursion Q xs → Decides b (AllByRecursion (λ x. Q x × P x) xs) → Decides b (AllByRecursion P xs)
decides_placed P Q xs b q d = (λ e. All-weaker (λ x. Q x × P x) P (λ x h. h.1) xs (d.0 e), λ p. d.1 (with_places P Q xs q p))

-- a step leads from a state, and by an operator that is there
pub from_state : (m : Model) (o : ℕ) (s t : List ℕ) → Step m o s t → State m.sizes s
from_state m o s t d = ((applies_is m o s).0 ((step_is m o s t).0 d).0).1

pub numbered : (m : Model) (o : ℕ) (s t : List ℕ) → Step m o s t → o < length m.operators
numbered m o s t d = ((applies_is m o s).0 ((step_is m o s t).0 d).0).0

module _ (m : Model) (r : Rules m) where
  -- what the effects make of a state is one
  pub outcome_is_state : (o : ℕ) (s : List ℕ) → Applies m o s → State m.sizes (outcome (operator m o).effects s)
  outcome_is_state o s a =
      let parts = (applies_is m o s).0 a in
      outcome_state m.sizes (operator m o).effects s (acting_at m r o parts.0).effects_valued parts.1

  pub effects_inside : (o : ℕ) (s : List ℕ) → Applies m o s → AllByRecursion (λ f. f.variable < length s) (operator m o).effects
  effects_inside o s a =
      let parts = (applies_is m o s).0 a in
      places (λ f. f.variable) (λ f. f.value) m.sizes s (operator m o).effects parts.1 (acting_at m r o parts.0).effects_valued

  -- where the preconditions are tested on values that are there
  pub applies_decides : (o : ℕ) (s : List ℕ) (b : Bool) → o < length m.operators → State m.sizes s → Decides b (AllByRecursion (λ p. (p.variable < length s) × Holds p s) (operator m o).preconditions) → Decides b (Applies m o s)
  applies_decides o s b l h d =
      let inside = places (λ p. p.variable) (λ p. p.value) m.sizes s (operator m o).preconditions h (acting_at m r o l).preconditions_valued in
      let e = decides_placed (λ p. Holds p s) (λ p. p.variable < length s) (operator m o).preconditions b inside d in
      (λ t. (applies_is m o s).1 (l, h, e.0 t), λ a. e.1 ((applies_is m o s).0 a).2)

  pub goal_decides : (s : List ℕ) (b : Bool) → State m.sizes s → Decides b (AllByRecursion (λ f. (f.variable < length s) × Stands f s) m.goal) → Decides b (Goal m s)
  goal_decides s b h d =
      let inside = places (λ f. f.variable) (λ f. f.value) m.sizes s m.goal h r.goal_valued in
      let e = decides_placed (λ f. Stands f s) (λ f. f.variable < length s) m.goal b inside d in
      (λ t. (goal_is m s).1 (h, e.0 t), λ g. e.1 ((goal_is m s).0 g).1)

  pub step_laws : StepLaws m
  step_laws = record {
    from_state = from_state m;
    to_state = λ o s t d. let parts = (step_is m o s t).0 d in subst (State m.sizes) (sym parts.1) (outcome_is_state o s parts.0);
    one_outcome = λ o s t u d e. ((step_is m o s t).0 d).1 ∙ sym ((step_is m o s u).0 e).1;
    effects_stand = λ o s t f d has.
        let a = acting_at m r o (numbered m o s t d) in
        subst (Stands f) (sym ((step_is m o s t).0 d).1) (outcome_stands (operator m o).effects s f a.effects_distinct (effects_inside o s ((step_is m o s t).0 d).0) has);
    others_keep = λ o s t v d out. subst (λ u. get_or u v 0 ≡ get_or s v 0) (sym ((step_is m o s t).0 d).1) (outcome_keeps (operator m o).effects s v (outside_from_has (operator m o).effects v out));
  }
