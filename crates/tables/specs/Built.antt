-- What a table holds once it is built.
use Rattle.std.specs.Prelude.{◌≡◌, ℕ, ◌≤◌, List, length}
use Rattle.sas.specs.Model.{Model}
use Rattle.sas.specs.Ranks.{rank, states}
use Rattle.sas.specs.States.{State}
use Rattle.tables.specs.Costs.{Tells}
use Rattle.tables.specs.Entries.{entry}

pub record Built (p : Model) (each : ℕ → ℕ) (before after : List ℕ) : Type 0 where
  -- the entry of each projected state, at its rank, tells the least cost from there to the goal
  pub exact : (s : List ℕ) → State p.sizes s → Tells p each s (entry after (rank p.sizes s))
  -- what stands past them is as it was
  pub rest : (k : ℕ) → states p ≤ k → entry after k ≡ entry before k
  pub long : length after ≡ length before
