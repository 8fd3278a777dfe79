-- Just the bytes that spell a lawful card are read as it.
use Rattle.std.proofs.Common.{ℕ, List}
use Rattle.cards.specs.Content.{Content}
use Rattle.cards.specs.Spelling.{Exactly}
use Rattle.cards.proofs.Lawful.{meaning_known}
use Rattle.cards.proofs.Spelled.{spells_read}

pub exactly : (bytes : List ℕ) (c : Content) → Exactly bytes c
exactly bytes c = record { read = meaning_known bytes c; back = spells_read bytes c }
