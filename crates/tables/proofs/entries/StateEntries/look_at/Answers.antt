-- Where the operator leads to t from nowhere, nothing is to be looked at.
use Rattle.std.proofs.Common.{inl, arith}
use Rattle.tables.specs.Weighted.{cost_of, task_of}
use Rattle.tables.proofs.Looks.{left_skip}
use Rattle.tables.proofs.entries.StateEntries.look_at.Goals as goal

pub returns-in_default : goal.returns-in_default
returns-in_default g c =
    let graph = c.args.self.now.graph.now in
    record {
      ordered = c.requires.ready.ordered;
      places = omega arith;
      capped = λ v d e. inl e;
      sofar = left_skip (task_of graph) (cost_of graph) c.args.self.now.entries.now graph.states c.args.t c.args.g c.args.operator (g.W.WaitingList.waiting c.args.list.now) c.in_default.ensures c.requires.ready.sofar;
    }
