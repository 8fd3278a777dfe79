-- What a plan is worth: a run from a start to a goal state, at the cost that is stated.
use Rattle.std.specs.Prelude.{◌≡◌, ℕ, ◌<◌, ◌≤◌, ◌⊎◌, List, Result, Ok, Err, IfSome, vec_items, slice_index}
use Rattle.sas.specs.Model.{Model}
use Rattle.sas.specs.Ranks.{states}
use Rattle.sas.specs.Runs.{Run, cost}
use Rattle.sas.specs.States.{Goal}
use Rattle.benchplan.specs.declared.answer.Plan.{Plan}
use Rattle.benchplan.specs.declared.refusal.Refusal.{Refusal}
use Rattle.fields.specs.Fields.{at}
use Rattle.benchplan.specs.Refusals.{refusal_number, refusal_place}

-- no operator is barred
abbrev pub Any : ℕ → Type 0
Any o = Unit {0}

-- the steps run from the start to a goal state and cost so much
pub record Runs (m : Model) (start costs steps : List ℕ) (all : ℕ) : Type 0 where
  pub end : List ℕ
  pub run : Run m Any start steps end
  pub goal : Goal m end
  pub sum : all ≡ cost (λ o. slice_index costs o) steps

-- the answer to a card that was read: a plan, 17 where it has more states than there is memory for, 20, or no number
abbrev pub Kept : Model → List ℕ → List ℕ → Result Plan Refusal → Type 0
Kept m start costs (Ok plan) = (states m ≤ 1024) × Runs m start costs (vec_items plan.steps) plan.cost
Kept m start costs (Err r) = IfSome (refusal_number r) (λ n. (refusal_place r ≡ at 0 0) × (((n ≡ 17) × (1024 < states m)) ⊎ ((n ≡ 20) × (states m ≤ 1024))))
