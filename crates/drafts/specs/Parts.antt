-- A precondition or an effect more for an operator.
use Rattle.std.specs.Prelude.{ℕ, List, Ok, Result}
use Rattle.sas.specs.declared.Precondition.{Precondition}
use Rattle.sas.specs.declared.Fact.{Fact}
use Rattle.fields.specs.declared.faults.LineFault.{LineFault}
use Rattle.cards.specs.Content.{Var}
use Rattle.cards.specs.Reading.{Placed, add_valued, ◌>>=◌}

-- o with other preconditions, or other effects
abbrev pub with_preconditions : Placed → List Precondition → Placed
with_preconditions o ps = record { line = o.line; oper = record { name = o.oper.name; cost = o.oper.cost; preconditions = ps; effects = o.oper.effects } }

abbrev pub with_effects : Placed → List Fact → Placed
with_effects o fs = record { line = o.line; oper = record { name = o.oper.name; cost = o.oper.cost; preconditions = o.oper.preconditions; effects = fs } }

-- one part more for the operator o, which has those that `parts` reads
abbrev pub add_to : {X : Type 0} → (X → ℕ) → (ℕ × ℕ → X) → (Placed → List X) → (Placed → List X → Placed) → ℕ → List Var → List ℕ → List ℕ → Placed → Result Placed LineFault
add_to of make parts with_parts l vs a b o = do
  xs ← add_valued of make l vs a b (parts o)
  Ok (with_parts o xs)
