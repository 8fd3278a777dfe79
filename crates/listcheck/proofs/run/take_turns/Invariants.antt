-- No count passes what it was by more than the number of turns.
use Rattle.std.proofs.Common.{◌+◌, ◌≤◌}
use Rattle.listcheck.proofs.run.take_turns.Given as goal

abbrev pub invariant-loop : goal.invariant-loop
invariant-loop g l = (l.gave.empty ≤ l.initial.gave.empty + l.counter) × (l.gave.refused ≤ l.initial.gave.refused + l.counter)
