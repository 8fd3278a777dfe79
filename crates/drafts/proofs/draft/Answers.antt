-- A card is read line by line, and then tested as a whole.
use Rattle.std.proofs.Common.{Ok, sym, ◌∙◌, arith}
use Rattle.std.proofs.lemmas.Result.{err_from_is_err_and}
use Rattle.drafts.specs.View.{said}
use Rattle.drafts.proofs.Told.{reading_on, reading_err, reading_whole}
use Rattle.drafts.proofs.draft.Goals as goal

pub returns-in_err-read : goal.returns-in_err-read
returns-in_err-read c =
    let p = err_from_is_err_and c.from_residual.result c.from_residual.ensures.1 in
    rw (p.1, p.2) (reading_err said _ c.args.bytes.now (omega arith) c.in_err-read.ensures)

pub returns-in_err-check : goal.returns-in_err-check
returns-in_err-check c =
    let p = err_from_is_err_and c.from_residual-in_err-check.result c.from_residual-in_err-check.ensures.1 in
    rw (p.1, p.2) (reading_whole said _ c.args.bytes.now (said c.in_ok-read.read) (omega arith) c.in_ok-read.ensures c.in_err-check.ensures)

pub returns : goal.returns
returns c =
    reading_on c.args.bytes.now (Ok (said c.in_ok-read.read)) (omega arith) c.in_ok-read.ensures ∙ sym c.in_ok-check.ensures
