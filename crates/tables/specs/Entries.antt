-- Entries as heights, and when they obey the laws of an estimator in a projected task.
use Rattle.std.specs.Prelude.{◌≡◌, ℕ, ◌<◌, cond, List, ◌==◌, slice_index, Option, Some, None}
use Rattle.estimators.specs.Heights.{Falls, Held}
use Rattle.projections.specs.Projection.{Edge}
use Rattle.sas.specs.Model.{Model}
use Rattle.sas.specs.Ranks.{GoalRank, states}
use Rattle.tables.specs.Costs.{mark}

-- the mark is dead
abbrev pub height_at : ℕ → Option ℕ
height_at e = cond (e == mark) None (Some e)

abbrev pub entry : List ℕ → ℕ → ℕ
entry entries k = slice_index entries k

pub record ObeysAt (p : Model) (each : ℕ → ℕ) (entries : List ℕ) (k : ℕ) : Type 0 where
  -- the mark, or at most K
  pub held : Held (height_at (entry entries k))
  -- a goal state has 0
  pub goal : GoalRank p k → entry entries k ≡ 0
  -- along a step the height falls by no more than the share
  pub step : (o l : ℕ) → Edge p o k l → Falls (each o) (height_at (entry entries k)) (height_at (entry entries l))

abbrev pub Obeys : Model → (ℕ → ℕ) → List ℕ → Type 0
Obeys p each entries = (k : ℕ) → k < states p → ObeysAt p each entries k
