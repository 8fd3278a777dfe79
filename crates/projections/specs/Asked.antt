-- Preconditions as facts, and back; and a variable at its value 0.
use Rattle.std.specs.Prelude.{ℕ}
use Rattle.sas.specs.declared.Fact.{Fact}
use Rattle.sas.specs.declared.Precondition.{Precondition}

abbrev pub as_fact : Precondition → Fact
as_fact p = record { variable = p.variable; value = p.value }

abbrev pub as_precondition : Fact → Precondition
as_precondition f = record { variable = f.variable; value = f.value }

abbrev pub at_zero : ℕ → Fact
at_zero v = record { variable = v; value = 0 }
