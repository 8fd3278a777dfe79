-- From what was read to what is promised of it.
use Rattle.std.proofs.Common.{◌≡◌, ℕ, ◌≤◌, List, length, Ok, Err, Result, ap, subst}
use Rattle.cards.specs.Content.{Content, Lawful}
use Rattle.cards.specs.Faults.{Tells, Gives}
use Rattle.cards.specs.Spelling.{Spells}
use Rattle.cards.proofs.Spelled.{spells_read}
use Rattle.fields.specs.Lines.{map_ok}
use Rattle.cards.specs.Reading.{Reading, content, reading, meaning}
use Rattle.cards.specs.declared.CardFault.{CardFault}
use Rattle.cards.specs.declared.CardFault.TheVariants.{Memory, TooLong, InLine, NoVariable, NoEffect, TooManyStates}

-- a refusal of the draft is one of the card
pub refused_so : {U V : Type 0} (f : U → Reading) (g : V → Content) (e : CardFault) (bytes : List ℕ) → Tells f (Err e) (reading bytes) → Tells g (Err e) (meaning bytes)
unfolding meaning
refused_so f g Memory bytes h = tt
refused_so f g TooLong bytes h = ap (map_ok content) h
refused_so f g (InLine e) bytes h = ap (map_ok content) h
refused_so f g NoVariable bytes h = ap (map_ok content) h
refused_so f g (NoEffect l) bytes h = ap (map_ok content) h
refused_so f g TooManyStates bytes h = ap (map_ok content) h

pub said_so : (bytes : List ℕ) (s : Reading) → reading bytes ≡ Ok s → meaning bytes ≡ Ok (content s)
unfolding meaning
said_so bytes s h = ap (map_ok content) h

-- a lawful content that the text spells is what is told of it
pub spelled_told : {U : Type 0} (r : Result U CardFault) (x : Content) (bytes : List ℕ) → Gives r x (meaning bytes) → (c : Content) → length bytes ≤ 16384 → Lawful c → Spells bytes c → Gives r x (Ok c)
spelled_told r x bytes h c short lawful spells = subst (Gives r x) (spells_read bytes c short lawful spells) h

pub spelled_read : (x : Content) (bytes : List ℕ) → meaning bytes ≡ Ok x → (c : Content) → length bytes ≤ 16384 → Lawful c → Spells bytes c → ◌≡◌ {A = Result Content CardFault} (Ok c) (Ok x)
spelled_read x bytes = spelled_told {U = Unit {0}} (Ok tt) x bytes
