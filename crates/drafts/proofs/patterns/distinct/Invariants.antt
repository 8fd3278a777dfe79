-- The numbers before the index are distinct.
use Rattle.std.proofs.Common.{◌≡◌, [], take, drop}
use Rattle.cards.specs.Reading.{distinct_on}
use Rattle.drafts.proofs.patterns.distinct.Given as goal

abbrev pub invariant-loop-i : goal.invariant-loop-i
invariant-loop-i l = distinct_on l.line [] l.vs ≡ distinct_on l.line (take l.i l.vs) (drop l.i l.vs)
