-- That a card that keeps the rules is read back from its text.
use Rattle.cards.proofs.Spelled.{read_back}
use Rattle.cards.proofs.theorems.spelled_cards_are_read.Goals as goal

pub returns : goal.returns
returns c = read_back
