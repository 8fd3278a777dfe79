-- The operators so far are looked at.
use Rattle.tables.specs.Backwards.{Left}
use Rattle.tables.specs.Lists.{Looked}
use Rattle.tables.proofs.entries.StateEntries.look_at_all.Given as goal

abbrev pub invariant-loop-operator : goal.invariant-loop-operator
invariant-loop-operator g l =
    let w = g.W.WaitingList in
    Looked w.places w.waiting w.ordered l.self.graph.now l.self.entries.now l.t l.g (Left l.t l.operator) l.initial.list l.list
