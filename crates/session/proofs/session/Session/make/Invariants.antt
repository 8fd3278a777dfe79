-- Where what is left of the calls ends, all of them end.
use Rattle.std.proofs.Common.{drop}
use Rattle.session.specs.Bench.{Bench, bench}
use Rattle.session.specs.Calls.{Replayed}
use Rattle.session.proofs.session.Session.make.Given as goal

abbrev pub invariant-loop-call : goal.invariant-loop-call
invariant-loop-call l = (d : Bench) → Replayed (bench l.self) (drop l.call-index l.calls) d → Replayed (bench l.initial.self) l.calls d
