-- What the whole task and its projection are to one another.
use Rattle.std.specs.Prelude.{◌≡◌, ℕ, Bool, List}
use Rattle.sas.specs.Model.{Model}
use Rattle.sas.specs.Ranks.{OneToOne}
use Rattle.sas.specs.States.{State, Step, Goal}
use Rattle.projections.specs.Projection.{only, projected, Remains}

pub record ProjectionLaws (keep : ℕ → Bool) (m : Model) : Type 0 where
  -- projected states and the numbers below their count correspond one to one
  pub ranked : OneToOne (projected keep m)
  -- what is left of a state is a state
  pub states : (s : List ℕ) → State m.sizes s → State (projected keep m).sizes (only keep s)
  -- a step is a step of the same number
  pub steps : (o : ℕ) (s t : List ℕ) → Step m o s t → Remains (projected keep m) o → Step (projected keep m) o (only keep s) (only keep t)
  -- or no change, where the operator has no effect in the pattern
  pub stays : (o : ℕ) (s t : List ℕ) → Step m o s t → (Remains (projected keep m) o → ⊥) → only keep t ≡ only keep s
  -- and a goal state is a goal state
  pub goals : (s : List ℕ) → Goal m s → Goal (projected keep m) (only keep s)
