use Rattle.std.proofs.lemmas.Result.{err_from_is_err_and}
use Rattle.drafts.specs.View.{said}
use Rattle.tasks.specs.Contents.{contents}
use Rattle.cards.proofs.Lawful.{reading_lawful}
use Rattle.tasks.proofs.Meanings.{refused_so}
use Rattle.tasks.proofs.card.Card.parsed.Goals as goal

pub returns-in_err-draft-clause-answer : goal.returns-in_err-draft-clause-answer
returns-in_err-draft-clause-answer c =
    let p = err_from_is_err_and c.from_residual.result c.from_residual.ensures.1 in
    rw (p.1, p.2) (refused_so said contents c.in_err-draft.field-0.0 c.args.bytes.now c.in_err-draft.ensures)

pub task_of-requires : goal.task_of-requires
task_of-requires c = reading_lawful c.args.bytes.now (said c.in_ok-draft.draft) c.in_ok-draft.ensures
