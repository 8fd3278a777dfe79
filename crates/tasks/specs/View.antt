-- The model of a task.
use Rattle.sas.specs.Model.{Model}
use Rattle.tasks.specs.Parts.{model}
use Rattle.tasks.specs.declared.task.Task.{Task}

abbrev pub model_of : Task → Model
model_of t = model t.sizes t.goal t.operators
