-- The number of a card's fault, with its line and field; and answers that want of memory may replace.
use Rattle.std.specs.Prelude.{◌≡◌, ℕ, Some, None, Ok, Err, Option, Result}
use Rattle.fields.specs.declared.place.Place.{Place}
use Rattle.fields.specs.Fields.{at}
use Rattle.fields.specs.Lines.{line_number, line_place}
use Rattle.cards.specs.declared.CardFault.{CardFault}
use Rattle.cards.specs.declared.CardFault.TheVariants.{Memory, TooLong, InLine, NoVariable, NoEffect, TooManyStates}

-- want of memory has no number
abbrev pub card_number : CardFault → Option ℕ
card_number Memory = None
card_number TooLong = Some 1
card_number (InLine e) = Some (line_number e)
card_number NoVariable = Some 8
card_number (NoEffect l) = Some 8
card_number TooManyStates = Some 9

-- line and field, each 0 where it has none
abbrev pub card_place : CardFault → Place
card_place Memory = at 0 0
card_place TooLong = at 0 0
card_place (InLine e) = line_place e
card_place NoVariable = at 0 0
card_place (NoEffect l) = at l 0
card_place TooManyStates = at 0 0

-- the answer r is w, by what f makes of a value, unless memory failed
abbrev pub Tells : {U X : Type 0} → (U → X) → Result U CardFault → Result X CardFault → Type 0
Tells f (Ok u) w = w ≡ Ok (f u)
Tells f (Err Memory) w = Unit {0}
Tells f (Err TooLong) w = w ≡ Err TooLong
Tells f (Err (InLine e)) w = w ≡ Err (InLine e)
Tells f (Err NoVariable) w = w ≡ Err NoVariable
Tells f (Err (NoEffect l)) w = w ≡ Err (NoEffect l)
Tells f (Err TooManyStates) w = w ≡ Err TooManyStates

-- the same, where x is what the value is then
abbrev pub Gives : {U X : Type 0} → Result U CardFault → X → Result X CardFault → Type 0
Gives r x w = Tells (λ _. x) r w
