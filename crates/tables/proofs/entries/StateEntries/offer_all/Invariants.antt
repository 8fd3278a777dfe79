-- The choices so far are looked at.
use Rattle.tables.specs.Backwards.{Later}
use Rattle.tables.specs.Lists.{Looked}
use Rattle.tables.specs.Weighted.{task_of}
use Rattle.tables.proofs.entries.StateEntries.offer_all.Given as goal

abbrev pub invariant-loop-n : goal.invariant-loop-n
invariant-loop-n g l =
    let w = g.W.WaitingList in
    Looked w.places w.waiting w.ordered l.self.graph.now l.self.entries.now l.t l.g (Later (task_of l.self.graph.now) l.t l.operator l.origin l.n) l.initial.list l.list
