-- The way back over an operator: the ranks from which it leads to a given one.
use Rattle.std.specs.Prelude.{◌≡◌, ℕ, ◌+◌, ◌*◌, ◌/◌, ◌%◌, ◌<◌, Bool, cond, List, [], ◌∷◌, ◌==◌, slice_index}
use Rattle.std.specs.List.{list_any}
use Rattle.sas.specs.Model.{Model}
use Rattle.sas.specs.Ranks.{coefficient}
use Rattle.sas.specs.States.{operator}
use Rattle.sas.specs.declared.Fact.{Fact}
use Rattle.sas.specs.declared.Precondition.{Precondition}
use Rattle.projections.specs.Projection.{Edge}

-- whether a precondition speaks of v
abbrev pub asks : List Precondition → ℕ → Bool
asks ps v = list_any (λ p. p.variable == v) ps

-- the variables that are set without being asked for
abbrev pub unasked : List Precondition → List Fact → List ℕ
unasked ps [] = []
unasked ps (f ∷ fs) = cond (asks ps f.variable) (unasked ps fs) (f.variable ∷ unasked ps fs)

-- the free variables of an operator, which may have had any value before it
abbrev pub free : Model → ℕ → List ℕ
free p o = unasked (operator p o).preconditions (operator p o).effects

-- how many values some variables have together
abbrev pub ways : List ℕ → List ℕ → ℕ
ways sizes [] = 1
ways sizes (v ∷ vs) = slice_index sizes v * ways sizes vs

-- what the n-th choice of values for some variables adds to a rank in which they are 0
abbrev pub offset : List ℕ → List ℕ → ℕ → ℕ
offset sizes [] n = 0
offset sizes (v ∷ vs) n = n % slice_index sizes v * coefficient sizes v + offset sizes vs (n / slice_index sizes v)

-- b is the rank in which the free variables are 0, among those from which o leads to l; the choices give all of them
pub record Origin (p : Model) (o l b : ℕ) : Type 0 where
  pub leads : (n : ℕ) → n < ways p.sizes (free p o) → Edge p o (b + offset p.sizes (free p o) n) l
  pub all : (k : ℕ) → Edge p o k l → (n : ℕ) × (n < ways p.sizes (free p o)) × (k ≡ b + offset p.sizes (free p o) n)
