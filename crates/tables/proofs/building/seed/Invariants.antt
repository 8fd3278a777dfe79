-- The goal states so far wait.
use Rattle.std.proofs.Common.{◌≡◌}
use Rattle.tables.specs.Going.{Seeded}
use Rattle.tables.specs.Weighted.{task_of}
use Rattle.tables.proofs.building.seed.Given as goal

abbrev pub invariant-loop-rank : goal.invariant-loop-rank
invariant-loop-rank g l =
    let w = g.W.WaitingList in
    w.ordered l.list × (w.places l.list ≡ w.places l.initial.list) × Seeded (task_of l.graph) l.rank (w.waiting l.list)
