-- Lines are read one after another; there is at most one more than there are bytes.
use Rattle.std.proofs.Common.{◌≡◌, ◌∷◌, ◌∙◌, refl, ◌+◌, arith, rules}
use Rattle.std.proofs.lemmas.Result.{err_from_is_err_and}
use Rattle.fields.specs.Cursor.{left}
use Rattle.fields.proofs.Cuts.{pieces_count}
use Rattle.drafts.specs.View.{said}
use Rattle.drafts.proofs.Told.{line_err}
use Rattle.drafts.proofs.read_lines.Goals as goal

pub loop-i-init : goal.loop-i-init
loop-i-init c = search (rules, pieces_count)

pub returns-in_err-add_line : goal.returns-in_err-add_line
returns-in_err-add_line c =
    let p = err_from_is_err_and c.from_residual.result c.from_residual.ensures.1 in
    let count : c.in-Some.i ≡ c.loop-i.i-iterator.count = grind arith in
    let next : left c.loop-i.i-iterator.iter ≡ c.in-Some.text.now ∷ left c.next.new.self.iter = grind arith in
    rw (p.1, p.2) (line_err (Unit {0}) said _ (said c.add_line.new.self) (c.in-Some.i + 1) (said c.loop-i.draft) c.in-Some.text.now (left c.next.new.self.iter) _ (c.loop-i.invariant.2 ∙ rw (next, count) refl) c.in_err-add_line.ensures)
