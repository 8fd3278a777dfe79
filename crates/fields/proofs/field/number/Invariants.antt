-- The digits so far write n, which is within the limit.
use Rattle.std.proofs.Common.{◌≡◌, ◌≤◌, drop}
use Rattle.fields.specs.Text.{numeral, digits_on}
use Rattle.fields.proofs.field.number.Given as goal

abbrev pub invariant-loop-b : goal.invariant-loop-b
invariant-loop-b l = (l.n ≤ l.limit) × (numeral l.text ≡ digits_on l.n (drop l.b-index l.text))
