-- At most forty puts are refused in a turn.
use Rattle.std.proofs.Common.{◌*◌, ◌≤◌}
use Rattle.listcheck.proofs.run.tied.Given as goal

abbrev pub invariant-loop : goal.invariant-loop
invariant-loop g l = l.refused ≤ 40 * l.counter
