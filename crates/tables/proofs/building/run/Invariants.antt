-- The search goes on, and the entries past the states are as they were; each turn sets one entry more.
use Rattle.std.proofs.Common.{◌≡◌, ℕ, ◌≤◌, get_or}
use Rattle.tables.specs.Going.{marks}
use Rattle.tables.specs.Lists.{Goes}
use Rattle.tables.proofs.building.run.Given as goal

abbrev pub invariant-loop-t : goal.invariant-loop-t
invariant-loop-t g l =
    let w = g.W.WaitingList in
    Goes w.places w.waiting w.ordered l.graph l.entries l.list × (w.places l.list ≡ w.places l.initial.list)
    × ((k : ℕ) → l.graph.states ≤ k → get_or l.entries k 0 ≡ get_or l.initial.entries k 0)

abbrev pub decreases-loop-t : goal.decreases-loop-t
decreases-loop-t g l = marks l.entries l.graph.states
