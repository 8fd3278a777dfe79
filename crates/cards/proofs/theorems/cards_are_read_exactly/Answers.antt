-- That just the bytes that spell a lawful card are read as it.
use Rattle.cards.proofs.Exactly.{exactly}
use Rattle.cards.proofs.theorems.cards_are_read_exactly.Goals as goal

pub returns : goal.returns
returns c = exactly
