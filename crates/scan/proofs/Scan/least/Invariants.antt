-- The best so far is the least of the keys that were passed.
use Rattle.scan.specs.Rows.{LeastTo}
use Rattle.scan.proofs.Scan.least.Given as goal

abbrev pub invariant-loop-rank : goal.invariant-loop-rank
invariant-loop-rank g l = LeastTo g.K.Key.leq l.key-items l.rank l.best
