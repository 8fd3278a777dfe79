-- Steps and goals by rank are the steps and goals of the states of those ranks.
use Rattle.std.proofs.Common.{◌≡◌, ℕ, ◌<◌, Bool, List, Decides, sym, refl, ◌∙◌, subst}
use Rattle.sas.specs.Model.{Model, Rules}
use Rattle.sas.specs.States.{State, Applies, Step, Goal}
use Rattle.sas.specs.Ranks.{rank, states, StepRank, GoalRank}
use Rattle.sas.proofs.Steps.{from_state, step_laws, step_is, goal_is}
use Rattle.sas.proofs.Unranks.{rank_below, rank_apart}

pub step_rank : (m : Model) (o : ℕ) (s t : List ℕ) → Step m o s t → StepRank m o (rank m.sizes s) (rank m.sizes t)
unfolding StepRank
step_rank m o s t d = (s, t, d, refl, refl)

pub goal_rank : (m : Model) (s : List ℕ) → Goal m s → GoalRank m (rank m.sizes s)
unfolding GoalRank
goal_rank m s g = (s, g, refl)

pub goal_rank_inside : (m : Model) (k : ℕ) → GoalRank m k → k < states m
unfolding GoalRank
goal_rank_inside m k q = subst (λ n. n < states m) q.2 (rank_below m q.0 ((goal_is m q.0).0 q.1).0)

-- the goal holds in the state of a goal's rank
pub goal_of_rank : (m : Model) (k : ℕ) (s : List ℕ) → State m.sizes s → rank m.sizes s ≡ k → GoalRank m k → Goal m s
unfolding GoalRank
goal_of_rank m k s h e q = subst (Goal m) (rank_apart m.sizes q.0 s ((goal_is m q.0).0 q.1).0 h (q.2 ∙ sym e)) q.1

-- the step by ranks, from the state of the first
pub step_from : (m : Model) (o k l : ℕ) (s : List ℕ) → State m.sizes s → rank m.sizes s ≡ k → StepRank m o k l → (t : List ℕ) × Step m o s t × (rank m.sizes t ≡ l)
unfolding StepRank
step_from m o k l s h e d =
    let is : d.0 ≡ s = rank_apart m.sizes d.0 s (from_state m o d.0 d.1 d.2) h (d.3 ∙ sym e) in
    (d.1, subst (λ x. Step m o x d.1) is d.2, d.4)

module _ (m : Model) (r : Rules m) where
  pub step_rank_inside : (o k l : ℕ) → StepRank m o k l → (k < states m) × (l < states m)
  unfolding StepRank
  step_rank_inside o k l d =
      let laws = step_laws m r in
      (subst (λ n. n < states m) d.3 (rank_below m d.0 (laws.from_state o d.0 d.1 d.2)), subst (λ n. n < states m) d.4 (rank_below m d.1 (laws.to_state o d.0 d.1 d.2)))

  -- no step by ranks where none leads on from the state
  pub no_step_rank : (o k : ℕ) (s : List ℕ) → State m.sizes s → rank m.sizes s ≡ k → (Applies m o s → ⊥) → (l : ℕ) → StepRank m o k l → ⊥
  no_step_rank o k s h e never l d =
      let f = step_from m o k l s h e d in
      never ((step_is m o s f.0).0 f.1).0

-- a test of the state of a rank is one of the rank
pub goal_rank_decides : (m : Model) (k : ℕ) (s : List ℕ) (b : Bool) → State m.sizes s → rank m.sizes s ≡ k → Decides b (Goal m s) → Decides b (GoalRank m k)
goal_rank_decides m k s b h e d = (λ t. subst (GoalRank m) e (goal_rank m s (d.0 t)), λ q. d.1 (goal_of_rank m k s h e q))
