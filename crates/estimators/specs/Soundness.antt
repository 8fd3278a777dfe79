-- When a pile, which is any estimator, is sound for the rows of the operators.
use Rattle.std.specs.Prelude.{◌≡◌, ℕ, ◌<◌, ◌≤◌, false, List, length, slice_get, IsSomeAnd, option_map, unwrap_or}
use Rattle.sas.specs.Model.{Model}
use Rattle.sas.specs.declared.Row.{Row}

-- o has a row, and is not barred
abbrev pub Unbarred : List Row → ℕ → Type 0
Unbarred rows o = IsSomeAnd (slice_get rows o) (λ r. r.barred ≡ false)

-- the cost of o, and 0 where it has no row
abbrev pub price : List Row → ℕ → ℕ
price rows o = unwrap_or (option_map (λ r. r.cost) (slice_get rows o)) 0

-- if o is unbarred, its share is at most its cost
abbrev pub Fair : List Row → (ℕ → ℕ) → ℕ → Type 0
Fair rows shares o = Unbarred rows o → shares o ≤ price rows o

-- o is unbarred, and its share exceeds its cost
abbrev pub Overcharged : List Row → (ℕ → ℕ) → ℕ → Type 0
Overcharged rows shares o = Unbarred rows o × (price rows o < shares o)

-- o is overcharged, and no operator before it is
pub record FirstOvercharged (rows : List Row) (shares : ℕ → ℕ) (o : ℕ) : Type 0 where
  pub here : Overcharged rows shares o
  pub first : (p : ℕ) → p < o → Fair rows shares p

-- the pile is for the task, and no unbarred operator's share exceeds its cost
pub record Sound (m : Model) (rows : List Row) (suits : Model → Type 0) (shares : ℕ → ℕ) : Type 0 where
  pub suited : suits m
  pub fair : (o : ℕ) → o < length m.operators → Fair rows shares o
