-- Tests of equality that are exact, and operators that are the same in order.
use Rattle.std.specs.Prelude.{◌≡◌, ℕ, ◌<◌, Bool, List, length, Decides, slice_index_or}
use Rattle.sas.specs.Model.{Action}
use Rattle.sas.specs.Same.{SameAction}
use Rattle.sas.specs.States.{idle}

-- whatever the test answers, it is true of equal values alone
abbrev pub Exact : {X : Type 0} → (X → X → Bool → Type 0) → Type 0
Exact {X} answers = (x y : X) (b : Bool) → answers x y b → Decides b (x ≡ y)

-- as many, and at each place the same as sets
abbrev pub SameActions : List Action → List Action → Type 0
SameActions xs ys = (length xs ≡ length ys) × ((o : ℕ) → o < length xs → SameAction (slice_index_or xs o idle) (slice_index_or ys o idle))
