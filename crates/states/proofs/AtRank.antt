-- What is computed of the state of a rank, said of the rank.
use Rattle.std.proofs.Common.{◌≡◌, ℕ, ◌<◌, ◌≤◌, Bool, false, List, Option, Some, None, Result, Ok, Err, Decides, MatchOption, MatchResult, unwrap_or, sym, subst, arith}
use Rattle.std.specs.Option.{option_flatten}
use Rattle.std.specs.Result.{result_ok}
use Rattle.sas.specs.Model.{Model, Rules}
use Rattle.sas.specs.Ranks.{GoalRank, StepRank, rank, states}
use Rattle.sas.specs.States.{Applies, Goal, State, Step}
use Rattle.sas.proofs.Moves.{goal_rank_decides, goal_rank_inside, no_step_rank, step_rank, step_rank_inside}
use Rattle.sas.proofs.Steps.{step_laws}
use Rattle.states.specs.Ranked.{RankOf, StateOf}
use Rattle.states.specs.declared.ranks.StateRefusal.{StateRefusal}
use Rattle.states.specs.declared.ranks.StateRefusal.TheVariants.{NoState}

-- what a step makes of a state has a rank
pub ranked : (m : Model) → Rules m → (o : ℕ) (s t : List ℕ) (r : Result ℕ StateRefusal) → Step m o s t → MatchResult r (RankOf m t) (λ e. (e ≡ NoState) × (State m.sizes t → ⊥)) → MatchOption (result_ok r) (Applies m o s → ⊥) (λ k. (u : List ℕ) × Step m o s u × RankOf m u k)
ranked m rules o s t (Ok l) d h = (t, d, h)
ranked m rules o s t (Err e) d h = absurd (h.1 ((step_laws m rules).to_state o s t d))

module _ (m : Model) (k : ℕ) where
  -- the state of the rank, and what a call gave of it
  abbrev Of : {T : Type 0} → (List ℕ → T → List ℕ → Type 0) → T → Type 0
  Of call t = (k < states m) × (s : List ℕ) × (u : List ℕ) × StateOf m k s × call s t u

  pub goal_told : (call : List ℕ → Bool → List ℕ → Type 0) → ((s u : List ℕ) (t : Bool) → call s t u → Decides t (Goal m s)) → (r : Option Bool) → MatchOption r (states m ≤ k) (Of call) → Decides (unwrap_or r false) (GoalRank m k)
  goal_told call tells None h = (λ e. cc, λ q. absurd (omega (arith, h, goal_rank_inside m k q)))
  goal_told call tells (Some t) h = goal_rank_decides m k h.1 t h.3.state h.3.value (tells h.1 h.2 t h.4)

  module _ (rules : Rules m) (o : ℕ) where
    stepped : (s : List ℕ) → StateOf m k s → (t : Option ℕ) → MatchOption t (Applies m o s → ⊥) (λ l. (v : List ℕ) × Step m o s v × RankOf m v l) → MatchOption t ((l : ℕ) → StepRank m o k l → ⊥) (λ l. StepRank m o k l × (l < states m))
    stepped s is None never = no_step_rank m rules o k s is.state is.value never
    stepped s is (Some l) h = (subst (λ j. StepRank m o j l) is.value (subst (StepRank m o (rank m.sizes s)) (sym h.2.value) (step_rank m o s h.0 h.1)), h.2.below)

    pub step_told : (call : List ℕ → Option ℕ → List ℕ → Type 0) → ((s u : List ℕ) (t : Option ℕ) → call s t u → MatchOption t (Applies m o s → ⊥) (λ l. (v : List ℕ) × Step m o s v × RankOf m v l)) → (r : Option (Option ℕ)) → MatchOption r (states m ≤ k) (Of call) → MatchOption (option_flatten r) ((l : ℕ) → StepRank m o k l → ⊥) (λ l. StepRank m o k l × (l < states m))
    step_told call tells None h = λ l d. omega (arith, h, (step_rank_inside m rules o k l d).0)
    step_told call tells (Some t) h = stepped h.1 h.3 t (tells h.1 h.2 t h.4)
