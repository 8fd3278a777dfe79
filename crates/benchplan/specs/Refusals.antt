-- The number of a refusal, with its line and field.
use Rattle.std.specs.Prelude.{ℕ, Some, None, Option}
use Rattle.fields.specs.Fields.{at}
use Rattle.fields.specs.declared.place.Place.{Place}
use Rattle.cards.specs.Faults.{card_number, card_place}
use Rattle.benchplan.specs.declared.refusal.Refusal.{Refusal}
use Rattle.benchplan.specs.declared.refusal.Refusal.TheVariants.{OfCard, TooManyStates, NoPlan, Memory, Astray}

-- want of memory has no number, and a search that went astray
abbrev pub refusal_number : Refusal → Option ℕ
refusal_number (OfCard e) = card_number e
refusal_number TooManyStates = Some 17
refusal_number NoPlan = Some 20
refusal_number Memory = None
refusal_number Astray = None

-- line and field, each 0 where it has none
abbrev pub refusal_place : Refusal → Place
refusal_place (OfCard e) = card_place e
refusal_place TooManyStates = at 0 0
refusal_place NoPlan = at 0 0
refusal_place Memory = at 0 0
refusal_place Astray = at 0 0
