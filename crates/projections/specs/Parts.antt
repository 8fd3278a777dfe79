-- The task that a projection holds, from its parts; the digits of a rank, and where they stand.
use Rattle.std.specs.Prelude.{ℕ, ◌*◌, ◌/◌, ◌%◌, List, [], ◌∷◌, map, length, vec_items, Vec, slice_index}
use Rattle.std.specs.declared.alloc.Global.{Global}
use Rattle.sas.specs.Model.{Action, Model}
use Rattle.sas.specs.Ranks.{sum, coefficient}
use Rattle.sas.specs.declared.Fact.{Fact}
use Rattle.projections.specs.Asked.{as_precondition}
use Rattle.projections.specs.declared.axis.Axis.{Axis}
use Rattle.projections.specs.declared.moves.Move.{Move}

abbrev pub action : Move → Action
action a = record { preconditions = map as_precondition (vec_items a.asked); effects = vec_items a.effects }

-- how many values each of some variables has, and their coefficients in the projected task and in the whole one
abbrev pub axis_sizes : List Axis → List ℕ
axis_sizes axes = map (λ a. a.size) axes

abbrev pub axis_coefficients : List Axis → List ℕ
axis_coefficients axes = map (λ a. a.coefficient) axes

abbrev pub axis_places : List Axis → List ℕ
axis_places axes = map (λ a. a.whole_coefficient) axes

abbrev pub model : List Axis → Vec Fact Global → Vec Move Global → Model
model axes goal moves = record { sizes = axis_sizes axes; goal = vec_items goal; operators = map action (vec_items moves) }

-- the coefficients of all variables, the first of which has the coefficient c
abbrev pub scales_from : ℕ → List ℕ → List ℕ
scales_from c [] = []
scales_from c (z ∷ zs) = c ∷ scales_from (c * z) zs

abbrev pub scales : List ℕ → List ℕ
scales sizes = scales_from 1 sizes

-- the value of the variable v in the state of rank k
abbrev pub digit : List ℕ → ℕ → ℕ → ℕ
digit sizes v k = k / coefficient sizes v % slice_index sizes v

-- the rank of what is left of the state of rank k, where the kept variables have these coefficients in the whole task
abbrev pub folded : List ℕ → List ℕ → ℕ → ℕ
folded places sizes k = sum (λ v. k / slice_index places v % slice_index sizes v * coefficient sizes v) (length sizes)
