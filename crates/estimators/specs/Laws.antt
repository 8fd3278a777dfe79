-- The laws of an estimator: what its shares and heights are in every task that it is for.
use Rattle.std.specs.Prelude.{◌≡◌, ℕ, ◌≤◌, length, Option, Some, None}
use Rattle.sas.specs.Model.{Model, Rules}
use Rattle.sas.specs.Ranks.{states, GoalRank, StepRank}
use Rattle.estimators.specs.Heights.{most, Held, Falls}

pub record EstimatorLaws {S : Type 0} (suits : S → Model → Type 0) (shares : S → ℕ → ℕ) (heights : S → ℕ → Option ℕ) : Type 0 where
  -- a goal state has height 0
  pub goal : (e : S) (m : Model) → Rules m → suits e m → (k : ℕ) → GoalRank m k → heights e k ≡ Some 0
  -- where o leads from s to t and t is not dead, s is not, and its height is at most the share of o plus that of t
  pub step : (e : S) (m : Model) → Rules m → suits e m → (o s t : ℕ) → StepRank m o s t → Falls (shares e o) (heights e s) (heights e t)
  -- no share and no height is above K
  pub light : (e : S) (o : ℕ) → shares e o ≤ most
  pub low : (e : S) (k : ℕ) → Held (heights e k)
  -- outside the task a share is 0 and a height is dead
  pub idle : (e : S) (m : Model) → Rules m → suits e m → (o : ℕ) → length m.operators ≤ o → shares e o ≡ 0
  pub outside : (e : S) (m : Model) → Rules m → suits e m → (k : ℕ) → states m ≤ k → heights e k ≡ None
