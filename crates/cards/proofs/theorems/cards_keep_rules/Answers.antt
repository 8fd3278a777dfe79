-- That whatever is read keeps the rules.
use Rattle.cards.proofs.Lawful.{keeps_rules}
use Rattle.cards.proofs.theorems.cards_keep_rules.Goals as goal

pub returns : goal.returns
returns c = keeps_rules
