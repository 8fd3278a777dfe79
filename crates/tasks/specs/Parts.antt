-- The model of a task, from the parts that a task holds.
use Rattle.std.specs.Prelude.{ℕ, map, vec_items, Vec}
use Rattle.std.specs.declared.alloc.Global.{Global}
use Rattle.sas.specs.declared.Fact.{Fact}
use Rattle.sas.specs.Model.{Action, Model}
use Rattle.tasks.specs.declared.task.Operator.{Operator}

abbrev pub action : Operator → Action
action o = record { preconditions = vec_items o.preconditions; effects = vec_items o.effects }

abbrev pub model : Vec ℕ Global → Vec Fact Global → Vec Operator Global → Model
model sizes goal operators = record { sizes = vec_items sizes; goal = vec_items goal; operators = map action (vec_items operators) }
