-- The projected task of a table as a weighted graph: its model, and the cost of each operator.
use Rattle.std.specs.Prelude.{ℕ}
use Rattle.projections.specs.View.{view_of}
use Rattle.sas.specs.Model.{Model}
use Rattle.tables.specs.Costs.{share}
use Rattle.tables.specs.declared.weighted.Weighted.{Weighted}

abbrev pub task_of : Weighted → Model
task_of graph = view_of graph.projection

abbrev pub cost_of : Weighted → ℕ → ℕ
cost_of graph = share graph.shares.now
