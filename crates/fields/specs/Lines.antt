-- A line of a card, cut into the fields of its record; and the number and the place of a line's fault.
use Rattle.std.specs.Prelude.{ℕ, Bool, true, cond, List, [], ◌∷◌, Some, None, Ok, Err, Option, Result, ◌==◌}
use Rattle.fields.specs.Text.{pieces, tidy}
use Rattle.fields.specs.Cursor.{left}
use Rattle.fields.specs.Fields.{at}
use Rattle.fields.specs.declared.lines.Record.{Record}
use Rattle.fields.specs.declared.lines.Record.TheVariants as records
use Rattle.fields.specs.declared.place.Place.{Place}
use Rattle.fields.specs.declared.faults.FieldFault.{FieldFault}
use Rattle.fields.specs.declared.faults.FieldFault.TheVariants.{NoName, NoNumber, Twice}
use Rattle.fields.specs.declared.faults.LineFault.{LineFault}
use Rattle.fields.specs.declared.faults.LineFault.TheVariants.{Bytes, Shape, Order, Many, InField}

-- a record, as the texts of its fields after the letter
pub data Cut : Type 0 where
  variable : List ℕ → List ℕ → List ℕ → List ℕ → Cut
  operator : List ℕ → List ℕ → Cut
  precondition : List ℕ → List ℕ → Cut
  effect : List ℕ → List ℕ → Cut
  pattern : List (List ℕ) → Cut

abbrev pub plain_record : Record → Cut
plain_record (records.Variable t) = variable t.name.now t.size.now t.start.now t.goal.now
plain_record (records.Operator n c) = operator n.now c.now
plain_record (records.Precondition t) = precondition t.variable.now t.value.now
plain_record (records.Effect t) = effect t.variable.now t.value.now
plain_record (records.Pattern vs) = pattern (left vs)

abbrev pub plain_some : Option Record → Option Cut
plain_some None = None
plain_some (Some r) = Some (plain_record r)

abbrev pub map_ok : {X Y E : Type 0} → (X → Y) → Result X E → Result Y E
map_ok f (Ok x) = Ok (f x)
map_ok f (Err e) = Err e

-- a V line has four fields after its letter, an O, R or E line two, a T line one or more
abbrev pub four : ℕ → List (List ℕ) → Result (Option Cut) LineFault
four l [] = Err (Shape l)
four l (a ∷ []) = Err (Shape l)
four l (a ∷ b ∷ []) = Err (Shape l)
four l (a ∷ b ∷ c ∷ []) = Err (Shape l)
four l (a ∷ b ∷ c ∷ d ∷ []) = Ok (Some (variable a b c d))
four l (a ∷ b ∷ c ∷ d ∷ e ∷ es) = Err (Shape l)

abbrev pub two : (List ℕ → List ℕ → Cut) → ℕ → List (List ℕ) → Result (Option Cut) LineFault
two make l [] = Err (Shape l)
two make l (a ∷ []) = Err (Shape l)
two make l (a ∷ b ∷ []) = Ok (Some (make a b))
two make l (a ∷ b ∷ c ∷ cs) = Err (Shape l)

abbrev pub some : ℕ → List (List ℕ) → Result (Option Cut) LineFault
some l [] = Err (Shape l)
some l (a ∷ more) = Ok (Some (pattern (a ∷ more)))

-- by the letter: V O R E T
abbrev pub by_letter : ℕ → List ℕ → List (List ℕ) → Result (Option Cut) LineFault
by_letter l [] rest = Err (Shape l)
by_letter l (b ∷ []) rest =
    cond (b == 86) (four l rest)
    (cond (b == 79) (two operator l rest)
    (cond (b == 82) (two precondition l rest)
    (cond (b == 69) (two effect l rest)
    (cond (b == 84) (some l rest) (Err (Shape l))))))
by_letter l (b ∷ c ∷ cs) rest = Err (Shape l)

abbrev pub by_fields : ℕ → List (List ℕ) → Result (Option Cut) LineFault
by_fields l [] = Err (Shape l)
by_fields l (first ∷ rest) = by_letter l first rest

-- an empty line and one that begins with # say nothing
abbrev pub skipped : List ℕ → Bool
skipped [] = true
skipped (b ∷ bs) = b == 35

-- line l: a fault, nothing, or a record
abbrev pub cut_line : ℕ → List ℕ → Result (Option Cut) LineFault
cut_line l text = cond (tidy text) (cond (skipped text) (Ok None) (by_fields l (pieces 9 text))) (Err (Bytes l))

-- the number of a fault
abbrev pub field_number : FieldFault → ℕ
field_number (NoName p) = 6
field_number (NoNumber p) = 6
field_number (Twice p) = 7

abbrev pub line_number : LineFault → ℕ
line_number (Bytes l) = 2
line_number (Shape l) = 3
line_number (Order l) = 4
line_number (Many l) = 5
line_number (InField e) = field_number e

-- the line of a fault, and its field, 0 where the whole line is meant
abbrev pub field_place : FieldFault → Place
field_place (NoName p) = p
field_place (NoNumber p) = p
field_place (Twice p) = p

abbrev pub line_place : LineFault → Place
line_place (Bytes l) = at l 0
line_place (Shape l) = at l 0
line_place (Order l) = at l 0
line_place (Many l) = at l 0
line_place (InField e) = field_place e
