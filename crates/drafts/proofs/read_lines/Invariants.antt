-- What is read so far is what the lines that are passed say.
use Rattle.std.proofs.Common.{◌≡◌, ◌+◌}
use Rattle.fields.specs.Text.{pieces}
use Rattle.fields.specs.Cursor.{left}
use Rattle.cards.specs.Reading.{read_on, nothing}
use Rattle.drafts.specs.View.{said}
use Rattle.drafts.proofs.read_lines.Given as goal

abbrev pub invariant-loop-i : goal.invariant-loop-i
invariant-loop-i l =
    (goal.iterator-loop-i).can_next l.i-iterator × (goal.iterator-loop-i).is_finite l.i-iterator × (read_on 1 nothing (pieces 10 l.bytes) ≡ read_on (l.i-iterator.count + 1) (said l.draft) (left l.i-iterator.iter))
