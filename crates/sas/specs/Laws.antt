-- What every step of a task keeps to.
use Rattle.std.specs.Prelude.{◌≡◌, ℕ, List, ◌≢◌, slice_index}
use Rattle.std.specs.List.{ContainsAt}
use Rattle.sas.specs.declared.Fact.{Fact}
use Rattle.sas.specs.Model.{Model}
use Rattle.sas.specs.States.{State, Stands, Step, operator}

pub record StepLaws (m : Model) : Type 0 where
  pub from_state : (o : ℕ) (s t : List ℕ) → Step m o s t → State m.sizes s
  pub to_state : (o : ℕ) (s t : List ℕ) → Step m o s t → State m.sizes t
  pub one_outcome : (o : ℕ) (s t u : List ℕ) → Step m o s t → Step m o s u → t ≡ u
  -- each effect stands in the outcome
  pub effects_stand : (o : ℕ) (s t : List ℕ) (f : Fact) → Step m o s t → ContainsAt (operator m o).effects f → Stands f t
  -- a variable of no effect keeps its value
  pub others_keep : (o : ℕ) (s t : List ℕ) (v : ℕ) → Step m o s t → ((f : Fact) → ContainsAt (operator m o).effects f → f.variable ≢ v) → slice_index t v ≡ slice_index s v
