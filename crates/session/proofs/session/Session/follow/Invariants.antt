-- The steps so far run to the values, at the sum so far.
use Rattle.std.proofs.Common.{◌≡◌, take}
use Rattle.sas.specs.Runs.{cost}
use Rattle.session.specs.Bench.{bench}
use Rattle.session.specs.Changes.{held}
use Rattle.session.specs.Checks.{Runs, cost_in}
use Rattle.session.proofs.session.Session.follow.Given as goal

abbrev pub invariant-loop-i : goal.invariant-loop-i
invariant-loop-i l = Runs (bench l.self) (take l.i-counter l.steps) l.values × (l.sum ≡ held (cost (cost_in (bench l.self)) (take l.i-counter l.steps)))
