-- A field of a line: a name, a number or a dash, as its part of the text, with its line and its place there.
use Rattle.std.specs.Prelude.{ℕ, cond, ◌&&◌, List, [], ◌∷◌, is_some, Some, None, Ok, Err, Option, Result, ◌==◌, nat_le, nat_lt}
use Rattle.fields.specs.Text.{is_name, numeral}
use Rattle.fields.specs.declared.place.Place.{Place}
use Rattle.fields.specs.declared.field.Field.{Field}
use Rattle.fields.specs.declared.field.Field.TheVariants.{Name, Number, Dash}
use Rattle.fields.specs.declared.faults.FieldFault.{FieldFault}
use Rattle.fields.specs.declared.faults.FieldFault.TheVariants.{NoName, NoNumber}

-- field f of line l, both from 1, or each 0 where there is none
abbrev pub at : ℕ → ℕ → Place
at l f = record { line = l; field = f }

-- a field as plain values: its bytes and its place
pub data Plain : Type 0 where
  name : List ℕ → Place → Plain
  number : List ℕ → Place → Plain
  dash : Place → Plain

abbrev pub plain : Field → Plain
plain (Name t p) = name t.now p
plain (Number t p) = number t.now p
plain (Dash p) = dash p

-- the text of a field that is no dash
abbrev pub text_of : Plain → List ℕ
text_of (name t p) = t
text_of (number t p) = t
text_of (dash p) = []

abbrev pub line_of : Plain → ℕ
line_of (name t p) = p.line
line_of (number t p) = p.line
line_of (dash p) = p.line

-- the field at the place p, where a name, a number, or either a number or a dash is to stand
abbrev pub name_field : Place → List ℕ → Result Plain FieldFault
name_field p text = cond (is_name text) (Ok (name text p)) (Err (NoName p))

abbrev pub number_field : Place → List ℕ → Result Plain FieldFault
number_field p text = cond (is_some (numeral text)) (Ok (number text p)) (Err (NoNumber p))

abbrev pub number_or_dash : Place → List ℕ → Result Plain FieldFault
number_or_dash p [] = number_field p []
number_or_dash p (b ∷ []) = cond (b == 45) (Ok (dash p)) (number_field p (b ∷ []))
number_or_dash p (b ∷ c ∷ cs) = number_field p (b ∷ c ∷ cs)

-- a number from low to below end, else the fault e
abbrev pub from : ℕ → ℕ → FieldFault → Option ℕ → Result ℕ FieldFault
from low end e None = Err e
from low end e (Some n) = cond (nat_le low n && nat_lt n end) (Ok n) (Err e)

-- the value of a number field, if it is from low to below end
abbrev pub value_in : ℕ → ℕ → Plain → Result ℕ FieldFault
value_in low end (name t p) = Err (NoNumber p)
value_in low end (number t p) = from low end (NoNumber p) (numeral t)
value_in low end (dash p) = Err (NoNumber p)
