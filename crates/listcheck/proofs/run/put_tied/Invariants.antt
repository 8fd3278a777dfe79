-- No more puts are refused than there were turns.
use Rattle.std.proofs.Common.{◌≤◌}
use Rattle.listcheck.proofs.run.put_tied.Given as goal

abbrev pub invariant-loop : goal.invariant-loop
invariant-loop g l = l.refused ≤ l.counter
