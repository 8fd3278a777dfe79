-- What is read so far is what the fields that are passed write.
use Rattle.std.proofs.Common.{◌≡◌, [], vec_items}
use Rattle.fields.specs.Cursor.{left}
use Rattle.cards.specs.Reading.{indices_on}
use Rattle.drafts.proofs.patterns.indices.Given as goal

abbrev pub invariant-loop-text : goal.invariant-loop-text
invariant-loop-text l =
    (goal.iterator-loop-text).can_next l.text-iterator × (goal.iterator-loop-text).is_finite l.text-iterator × (indices_on l.line l.n [] (left l.fn.fields) ≡ indices_on l.line l.n (vec_items l.vs) (left l.text-iterator))
