use Rattle.cards.proofs.Lawful.{meaning_known}
use Rattle.tasks.specs.Contents.{contents}
use Rattle.tasks.proofs.card.Card.read.Goals as goal

pub returns-clause-spells : goal.returns-clause-spells
returns-clause-spells c =
    let known = meaning_known c.args.bytes.now (contents c.in_ok-self.field-0) c.in_ok-self.ensures.answer in
    (known.1, known.2)
