-- A task seen through some of its variables: the others are struck out, and these are numbered anew in their order.
use Rattle.std.specs.Prelude.{ℕ, zero, suc, ◌+◌, ◌<◌, Bool, cond, List, [], ◌∷◌, map, length, ◌==◌}
use Rattle.std.specs.List.{list_any}
use Rattle.sas.specs.Model.{Action, Model}
use Rattle.sas.specs.Ranks.{StepRank}
use Rattle.sas.specs.States.{operator}
use Rattle.sas.specs.declared.Fact.{Fact}
use Rattle.sas.specs.declared.Precondition.{Precondition}

-- whether a pattern, given as a list of variables, has v
abbrev pub among : List ℕ → ℕ → Bool
among ps v = list_any (λ p. p == v) ps

-- how many of the variables before v are kept: the new number of v, where v is kept
abbrev pub place : (ℕ → Bool) → ℕ → ℕ
place keep zero = 0
place keep (suc v) = place keep v + cond (keep v) 1 0

-- of a list with an element for each variable, those of the kept variables
abbrev pub only : {X : Type 0} → (ℕ → Bool) → List X → List X
only keep [] = []
only keep (x ∷ xs) = cond (keep 0) (x ∷ only (λ v. keep (suc v)) xs) (only (λ v. keep (suc v)) xs)

-- of a list of parts that each speak of a variable, those that speak of a kept one, numbered anew
abbrev pub kept : {X : Type 0} → (X → ℕ) → (ℕ → X → X) → (ℕ → Bool) → List X → List X
kept variable renumbered keep [] = []
kept variable renumbered keep (x ∷ xs) = cond (keep (variable x)) (renumbered (place keep (variable x)) x ∷ kept variable renumbered keep xs) (kept variable renumbered keep xs)

abbrev pub kept_facts : (ℕ → Bool) → List Fact → List Fact
kept_facts = kept (λ f. f.variable) (λ v f. record { variable = v; value = f.value })

abbrev pub kept_preconditions : (ℕ → Bool) → List Precondition → List Precondition
kept_preconditions = kept (λ p. p.variable) (λ v p. record { variable = v; value = p.value })

abbrev pub projected_action : (ℕ → Bool) → Action → Action
projected_action keep a = record { preconditions = kept_preconditions keep a.preconditions; effects = kept_facts keep a.effects }

-- the projected task; its operators go by their numbers in the whole task
unfoldable pub projected : (ℕ → Bool) → Model → Model
projected keep m = record { sizes = only keep m.sizes; goal = kept_facts keep m.goal; operators = map (projected_action keep) m.operators }

-- an operator that is left without effects is dropped; the others remain
abbrev pub Remains : Model → ℕ → Type 0
Remains p o = 0 < length (operator p o).effects

-- a step of the projected task from rank to rank
abbrev pub Edge : Model → ℕ → ℕ → ℕ → Type 0
Edge p o k l = Remains p o × StepRank p o k l
