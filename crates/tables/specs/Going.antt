-- Dijkstra's algorithm backwards, between its start and its end.
use Rattle.std.specs.Prelude.{◌≡◌, ℕ, zero, suc, ◌+◌, ◌*◌, ◌<◌, ◌≤◌, cond, ◌⊎◌, List, Some, Option, ◌==◌}
use Rattle.bestfirst.specs.Search.{Invariant, None}
use Rattle.estimators.specs.Heights.{most}
use Rattle.keys.specs.declared.Distance.{Distance}
use Rattle.sas.specs.Model.{Model}
use Rattle.sas.specs.Ranks.{GoalRank}
use Rattle.tables.specs.Backwards.{back, progress, Unset}
use Rattle.tables.specs.Costs.{mark}
use Rattle.tables.specs.Entries.{entry}

-- how many of the first n entries are marks
abbrev pub marks : List ℕ → ℕ → ℕ
marks l zero = 0
marks l (suc n) = marks l n + cond (entry l n == mark) 1 0

-- between two ranks that are opened; a distance rises by at most 65,535 for each entry that is set
pub record Going (p : Model) (each : ℕ → ℕ) (m : ℕ) (entries : List ℕ) (waits : ℕ → Option Distance) : Type 0 where
  pub level : ℕ
  pub inv : Invariant (back p each) (None (back p each)) level (progress entries m waits)
  pub unset : Unset entries m waits
  pub capped : (k : ℕ) (d : Distance) → waits k ≡ Some d → d.0 + 65535 * marks entries m ≤ 65535 * m
  pub small : (k : ℕ) → k < m → (entry entries k ≡ mark) ⊎ (entry entries k ≤ most)

-- the goal states of ranks below n wait at 0, and nothing else waits
pub record Seeded (p : Model) (n : ℕ) (waits : ℕ → Option Distance) : Type 0 where
  pub goals : (k : ℕ) → k < n → GoalRank p k → (d : Distance) × (waits k ≡ Some d) × (d.0 ≡ 0)
  pub only : (k : ℕ) (d : Distance) → waits k ≡ Some d → (k < n) × (d.0 ≡ 0) × GoalRank p k
