-- Runs of a projected task to its goal, and the least of their costs.
use Rattle.std.specs.Prelude.{◌≡◌, ℕ, ◌≤◌, ◌⊎◌, List, slice_index}
use Rattle.estimators.specs.Heights.{most}
use Rattle.projections.specs.Projection.{Remains}
use Rattle.sas.specs.Model.{Model}
use Rattle.sas.specs.Runs.{Run, cost}
use Rattle.sas.specs.States.{Goal}

-- the share of each operator, from a list
abbrev pub share : List ℕ → ℕ → ℕ
share shares o = slice_index shares o

-- some run of the projected task p from s to a goal state costs c
pub record Reaches (p : Model) (each : ℕ → ℕ) (s : List ℕ) (c : ℕ) : Type 0 where
  pub operators : List ℕ
  pub to : List ℕ
  pub run : Run p (Remains p) s operators to
  pub goal : Goal p to
  pub sum : cost each operators ≡ c

-- the dead mark, which stands for no run at all: 2 ^ 64 - 1
abbrev pub mark : ℕ
mark = 18446744073709551615

-- e is the least cost of a run from s to a goal state, or the mark where there is none
abbrev pub Tells : Model → (ℕ → ℕ) → List ℕ → ℕ → Type 0
Tells p each s e =
    ((e ≡ mark) × ((c : ℕ) → Reaches p each s c → ⊥))
    ⊎ ((e ≤ most) × Reaches p each s e × ((c : ℕ) → Reaches p each s c → e ≤ c))
