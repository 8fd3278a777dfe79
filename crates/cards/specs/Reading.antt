-- How a card is read, line by line: what it says, or its first fault.
use Rattle.std.specs.Prelude.{ℕ, ◌+◌, Bool, true, cond, ◌&&◌, List, [], ◌∷◌, ◌++◌, map, length, Some, None, Ok, Err, Option, Result, ◌==◌, nat_le, nat_lt, slice_index}
use Rattle.std.specs.List.{list_any}
use Rattle.sas.specs.declared.Precondition.{Precondition}
use Rattle.sas.specs.declared.Fact.{Fact}
use Rattle.sas.specs.Model.{product}
use Rattle.fields.specs.declared.place.Place.{Place}
use Rattle.fields.specs.declared.faults.FieldFault.{FieldFault}
use Rattle.fields.specs.declared.faults.FieldFault.TheVariants.{Twice}
use Rattle.fields.specs.declared.faults.LineFault.{LineFault}
use Rattle.fields.specs.declared.faults.LineFault.TheVariants.{Order, Many, InField}
use Rattle.fields.specs.Text.{pieces}
use Rattle.fields.specs.Fields.{at, Plain, name, number, dash, text_of, name_field, number_field, number_or_dash, value_in}
use Rattle.fields.specs.Lines.{Cut, variable, operator, precondition, effect, pattern, cut_line, map_ok}
use Rattle.cards.specs.declared.CardFault.{CardFault}
use Rattle.cards.specs.declared.CardFault.TheVariants.{TooLong, InLine, NoVariable, NoEffect, TooManyStates}
use Rattle.cards.specs.Content.{Var, Oper, Content, sizes}

-- an operator with the line of its O record
pub record Placed : Type 0 where
  pub line : ℕ
  pub oper : Oper

-- what the lines so far said
pub record Reading : Type 0 where
  pub vars : List Var
  pub opers : List Placed
  pub patterns : List (List ℕ)

infixl 20 ◌>>=◌
abbrev pub ◌>>=◌ : {X Y E : Type 0} → Result X E → (X → Result Y E) → Result Y E
◌>>=◌ (Ok x) f = f x
◌>>=◌ (Err e) f = Err e

-- a field's fault, kept whole in the line's
abbrev pub in_field : {X : Type 0} → Result X FieldFault → Result X LineFault
in_field (Ok x) = Ok x
in_field (Err e) = Err (InField e)

-- the name at the place p
abbrev pub name_at : Place → List ℕ → Result (List ℕ) LineFault
name_at p text = in_field (map_ok text_of (name_field p text))

-- the number at the place p, from low to below end
abbrev pub number_at : Place → ℕ → ℕ → List ℕ → Result ℕ LineFault
number_at p low end text = in_field (number_field p text >>= value_in low end)

-- the goal value of a variable of this size: a dash, or a number below the size
abbrev pub goal_in : ℕ → Plain → Result (Option ℕ) FieldFault
goal_in size (name t p) = map_ok Some (value_in 0 size (name t p))
goal_in size (number t p) = map_ok Some (value_in 0 size (number t p))
goal_in size (dash p) = Ok None

abbrev pub goal_at : Place → ℕ → List ℕ → Result (Option ℕ) LineFault
goal_at p size text = in_field (number_or_dash p text >>= goal_in size)

abbrev pub variable_of : ℕ → List ℕ → List ℕ → List ℕ → List ℕ → Result Var LineFault
variable_of l n z a g = do
  called ← name_at (at l 2) n
  size ← number_at (at l 3) 2 17 z
  start ← number_at (at l 4) 0 size a
  goal ← goal_at (at l 5) size g
  Ok (record { name = called; size = size; start = start; goal = goal })

abbrev pub operator_of : ℕ → List ℕ → List ℕ → Result Placed LineFault
operator_of l n c = do
  called ← name_at (at l 2) n
  cost ← number_at (at l 3) 0 65536 c
  Ok (record { line = l; oper = record { name = called; cost = cost; preconditions = []; effects = [] } })

-- a variable and one of its values
abbrev pub valued_of : ℕ → List Var → List ℕ → List ℕ → Result (ℕ × ℕ) LineFault
valued_of l vs a b = do
  v ← number_at (at l 2) 0 (length vs) a
  x ← number_at (at l 3) 0 (slice_index (sizes vs) v) b
  Ok (v, x)

abbrev pub member : ℕ → List ℕ → Bool
member v xs = list_any (λ x. x == v) xs

-- xs with one more; each has a variable, by `of`
abbrev pub add_valued : {X : Type 0} → (X → ℕ) → (ℕ × ℕ → X) → ℕ → List Var → List ℕ → List ℕ → List X → Result (List X) LineFault
add_valued of make l vs a b xs =
    cond (nat_lt (length xs) 8)
    (valued_of l vs a b >>= (λ p. cond (member p.0 (map of xs)) (Err (InField (Twice (at l 2)))) (Ok (xs ++ make p ∷ []))))
    (Err (Many l))

abbrev pub make_precondition : ℕ × ℕ → Precondition
make_precondition p = record { variable = p.0; value = p.1 }

abbrev pub make_fact : ℕ × ℕ → Fact
make_fact p = record { variable = p.0; value = p.1 }

-- one precondition or one effect more for an operator
abbrev pub add_precondition : ℕ → List Var → List ℕ → List ℕ → Placed → Result Placed LineFault
add_precondition l vs a b o = do
  ps ← add_valued (λ p. p.variable) make_precondition l vs a b o.oper.preconditions
  Ok (record { line = o.line; oper = record { name = o.oper.name; cost = o.oper.cost; preconditions = ps; effects = o.oper.effects } })

abbrev pub add_effect : ℕ → List Var → List ℕ → List ℕ → Placed → Result Placed LineFault
add_effect l vs a b o = do
  fs ← add_valued (λ f. f.variable) make_fact l vs a b o.oper.effects
  Ok (record { line = o.line; oper = record { name = o.oper.name; cost = o.oper.cost; preconditions = o.oper.preconditions; effects = fs } })

-- f at the last of a list
abbrev pub on_last : {X : Type 0} → LineFault → (X → Result X LineFault) → List X → Result (List X) LineFault
on_last e f [] = Err e
on_last e f (x ∷ []) = f x >>= (λ y. Ok (y ∷ []))
on_last e f (x ∷ z ∷ zs) = on_last e f (z ∷ zs) >>= (λ ys. Ok (x ∷ ys))

abbrev pub none : {X : Type 0} → List X → Bool
none xs = length xs == 0

-- whether a record may stand on line l: in order, and not one too many
abbrev pub place_for : ℕ → Bool → Bool → Result (Unit {0}) LineFault
place_for l ordered room = cond ordered (cond room (Ok tt) (Err (Many l))) (Err (Order l))

-- V lines come first, then operators, then T lines; a V line is out of order below an O or T line, and an O, R or E line below a T line
abbrev pub variable_place : ℕ → Reading → Result (Unit {0}) LineFault
variable_place l s = place_for l (none s.opers && none s.patterns) (nat_lt (length s.vars) 16)

abbrev pub operator_place : ℕ → Reading → Result (Unit {0}) LineFault
operator_place l s = place_for l (none s.patterns) (nat_lt (length s.opers) 128)

abbrev pub part_place : ℕ → Reading → Result (Unit {0}) LineFault
part_place l s = place_for l (none s.patterns) true

abbrev pub pattern_place : ℕ → Reading → Result (Unit {0}) LineFault
pattern_place l s = place_for l true (nat_lt (length s.patterns) 2)

abbrev pub add_variable : ℕ → Reading → List ℕ → List ℕ → List ℕ → List ℕ → Result Reading LineFault
add_variable l s n z a g = variable_place l s >>= (λ _. variable_of l n z a g >>= (λ v. Ok (record { vars = s.vars ++ v ∷ []; opers = s.opers; patterns = s.patterns })))

abbrev pub with_opers : Reading → List Placed → Reading
with_opers s os = record { vars = s.vars; opers = os; patterns = s.patterns }

abbrev pub add_operator : ℕ → Reading → List ℕ → List ℕ → Result Reading LineFault
add_operator l s n c = operator_place l s >>= (λ _. operator_of l n c >>= (λ o. Ok (with_opers s (s.opers ++ o ∷ []))))

-- R and E lines are for the O line above
abbrev pub add_part : ℕ → Reading → (Placed → Result Placed LineFault) → Result Reading LineFault
add_part l s f = part_place l s >>= (λ _. on_last (Order l) f s.opers >>= (λ os. Ok (with_opers s os)))

-- the variables of a T line, from its second field on, after those in vs
abbrev pub indices_on : ℕ → ℕ → List ℕ → List (List ℕ) → Result (List ℕ) LineFault
indices_on l n vs [] = Ok vs
indices_on l n vs (t ∷ ts) = number_at (at l (length vs + 2)) 0 n t >>= (λ v. indices_on l n (vs ++ v ∷ []) ts)

-- no variable twice, after those in seen
abbrev pub distinct_on : ℕ → List ℕ → List ℕ → Result (Unit {0}) LineFault
distinct_on l seen [] = Ok tt
distinct_on l seen (v ∷ vs) = cond (member v seen) (Err (InField (Twice (at l (length seen + 2))))) (distinct_on l (seen ++ v ∷ []) vs)

abbrev pub with_pattern : Reading → List ℕ → Reading
with_pattern s vs = record { vars = s.vars; opers = s.opers; patterns = s.patterns ++ vs ∷ [] }

abbrev pub add_pattern : ℕ → Reading → List (List ℕ) → Result Reading LineFault
add_pattern l s ts = pattern_place l s >>= (λ _. indices_on l (length s.vars) [] ts >>= (λ vs. distinct_on l [] vs >>= (λ _. Ok (with_pattern s vs))))

-- one record on top of what was read
abbrev pub add_record : ℕ → Reading → Cut → Result Reading LineFault
add_record l s (variable n z a g) = add_variable l s n z a g
add_record l s (operator n c) = add_operator l s n c
add_record l s (precondition a b) = add_part l s (add_precondition l s.vars a b)
add_record l s (effect a b) = add_part l s (add_effect l s.vars a b)
add_record l s (pattern ts) = add_pattern l s ts

abbrev pub add_some : ℕ → Reading → Option Cut → Result Reading LineFault
add_some l s None = Ok s
add_some l s (Some c) = add_record l s c

abbrev pub line_on : ℕ → Reading → List ℕ → Result Reading LineFault
line_on l s text = cut_line l text >>= add_some l s

-- the lines from number l on, on top of s
abbrev pub read_on : ℕ → Reading → List (List ℕ) → Result Reading LineFault
read_on l s [] = Ok s
read_on l s (text ∷ texts) = line_on l s text >>= (λ t. read_on (l + 1) t texts)

abbrev pub nothing : Reading
nothing = record { vars = []; opers = []; patterns = [] }

-- a line's fault, kept whole in the card's
abbrev pub in_line : {X : Type 0} → Result X LineFault → Result X CardFault
in_line (Ok x) = Ok x
in_line (Err e) = Err (InLine e)

-- each operator has an effect; else the first without one is at fault
abbrev pub effective : List Placed → Result (Unit {0}) CardFault
effective [] = Ok tt
effective (o ∷ os) = cond (none o.oper.effects) (Err (NoEffect o.line)) (effective os)

-- what is tested of the whole card: some variable, effects, and the number of states
abbrev pub whole : Reading → Result Reading CardFault
whole s =
    cond (none s.vars) (Err NoVariable)
    (effective s.opers >>= (λ _. cond (nat_le (product (sizes s.vars)) 1048576) (Ok s) (Err TooManyStates)))

abbrev pub reading : List ℕ → Result Reading CardFault
reading bytes = cond (nat_le (length bytes) 16384) (in_line (read_on 1 nothing (pieces 10 bytes)) >>= whole) (Err TooLong)

abbrev pub content : Reading → Content
content s = record { variables = s.vars; operators = map (λ o. o.oper) s.opers; patterns = s.patterns }

-- what a card says, or its first fault
unfoldable pub meaning : List ℕ → Result Content CardFault
meaning bytes = map_ok content (reading bytes)
