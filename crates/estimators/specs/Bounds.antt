-- What heights say of runs to a goal: none costs less.
use Rattle.std.specs.Prelude.{◌≡◌, ℕ, ◌≤◌, List, ◌≢◌, Option, Some, None}
use Rattle.sas.specs.Model.{Model}
use Rattle.sas.specs.Ranks.{rank}
use Rattle.sas.specs.Runs.{Run, cost}
use Rattle.sas.specs.States.{Goal}

pub record Bounds (m : Model) (allowed : ℕ → Type 0) (each : ℕ → ℕ) (heights : ℕ → Option ℕ) : Type 0 where
  -- an allowed run from s to a goal state costs at least the height of s
  pub least : (s t os : List ℕ) (h : ℕ) → Run m allowed s os t → Goal m t → heights (rank m.sizes s) ≡ Some h → h ≤ cost each os
  -- and from a dead state there is none
  pub none : (s t os : List ℕ) → Run m allowed s os t → Goal m t → heights (rank m.sizes s) ≢ None
