-- The operator leads from the rank to one rank alone.
use Rattle.tables.specs.Weighted.{cost_of, task_of}
use Rattle.tables.proofs.Opens.{one_step}
use Rattle.tables.proofs.entries.StateEntries.obeys_operator.Goals as goal

pub returns-in-Some : goal.returns-in-Some
returns-in-Some c =
    let graph = c.args.self.now.graph.now in
    one_step (task_of graph) (cost_of graph) c.args.self.now.entries.now c.args.operator c.args.rank c.in-Some.to c.in-Some.ensures.0 c.falls.result c.share.ensures c.height_of.ensures c.height_of-in-Some.ensures c.falls.ensures
