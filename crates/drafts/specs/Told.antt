-- Answers of the lines of a card, which want of memory may replace.
use Rattle.std.specs.Prelude.{◌≡◌, Ok, Err, Result}
use Rattle.fields.specs.declared.faults.LineFault.{LineFault}
use Rattle.cards.specs.declared.CardFault.{CardFault}
use Rattle.cards.specs.declared.CardFault.TheVariants.{Memory, TooLong, InLine, NoVariable, NoEffect, TooManyStates}

-- the answer r is w, by what f makes of a value, unless memory failed; no other fault is the line's
abbrev pub TellsLine : {U X : Type 0} → (U → X) → Result U CardFault → Result X LineFault → Type 0
TellsLine f (Ok u) w = w ≡ Ok (f u)
TellsLine f (Err Memory) w = Unit {0}
TellsLine f (Err TooLong) w = ⊥
TellsLine f (Err (InLine e)) w = w ≡ Err e
TellsLine f (Err NoVariable) w = ⊥
TellsLine f (Err (NoEffect l)) w = ⊥
TellsLine f (Err TooManyStates) w = ⊥

-- the same, where x is what the value is then
abbrev pub GivesLine : {U X : Type 0} → Result U CardFault → X → Result X LineFault → Type 0
GivesLine r x w = TellsLine (λ _. x) r w
