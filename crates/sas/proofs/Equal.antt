-- The derived comparisons of preconditions and of facts decide equality.
use Rattle.std.proofs.Common.{◌≡◌, ◌==◌, ◌&&◌, Decides, rules}
use Rattle.sas.specs.declared.Fact.{Fact}
use Rattle.sas.specs.declared.Precondition.{Precondition}

pub equal_preconditions : (x y : Precondition) → Decides (x.variable == y.variable && x.value == y.value) (x ≡ y)
equal_preconditions x y = search rules

pub equal_facts : (x y : Fact) → Decides (x.variable == y.variable && x.value == y.value) (x ≡ y)
equal_facts x y = search rules
