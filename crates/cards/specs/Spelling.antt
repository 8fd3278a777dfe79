-- Which texts spell what a card says, and what reading makes of them.
use Rattle.std.specs.Prelude.{◌≡◌, ℕ, ◌≤◌, true, not, List, [], ◌∷◌, ◌++◌, map, length, Some, None, Ok, decimal, filter, Option}
use Rattle.std.specs.List.{flat_map, AllByRecursion}
use Rattle.sas.specs.declared.Precondition.{Precondition}
use Rattle.sas.specs.declared.Fact.{Fact}
use Rattle.fields.specs.Text.{pieces, tidy}
use Rattle.fields.specs.Lines.{skipped}
use Rattle.cards.specs.Content.{Var, Oper, Content, Lawful}
use Rattle.cards.specs.Reading.{meaning}

-- fields parted by tabs
abbrev pub tabbed : List ℕ → List (List ℕ) → List ℕ
tabbed first [] = first
tabbed first (next ∷ more) = first ++ 9 ∷ tabbed next more

-- a goal value, or a dash
abbrev pub goal_text : Option ℕ → List ℕ
goal_text None = 45 ∷ []
goal_text (Some w) = decimal w

abbrev pub variable_line : Var → List ℕ
variable_line v = tabbed (86 ∷ []) (v.name ∷ decimal v.size ∷ decimal v.start ∷ goal_text v.goal ∷ [])

abbrev pub precondition_line : Precondition → List ℕ
precondition_line p = tabbed (82 ∷ []) (decimal p.variable ∷ decimal p.value ∷ [])

abbrev pub effect_line : Fact → List ℕ
effect_line f = tabbed (69 ∷ []) (decimal f.variable ∷ decimal f.value ∷ [])

abbrev pub operator_line : Oper → List ℕ
operator_line o = tabbed (79 ∷ []) (o.name ∷ decimal o.cost ∷ [])

abbrev pub pattern_line : List ℕ → List ℕ
pattern_line vs = tabbed (84 ∷ []) (map decimal vs)

-- the lines that say something
abbrev pub telling : List (List ℕ) → List (List ℕ)
telling ls = filter (λ l. not (skipped l)) ls

-- zs is xs and ys mixed, each in its own order
pub data Mixed : List (List ℕ) → List (List ℕ) → List (List ℕ) → Type 0 where
  ended : Mixed [] [] []
  left : {x : List ℕ} {xs ys zs : List (List ℕ)} → Mixed xs ys zs → Mixed (x ∷ xs) ys (x ∷ zs)
  right : {y : List ℕ} {xs ys zs : List (List ℕ)} → Mixed xs ys zs → Mixed xs (y ∷ ys) (y ∷ zs)

-- the lines of operators, one block after another: the O line, then the R lines and the E lines mixed
pub data Blocks : List Oper → List (List ℕ) → Type 0 where
  empty : Blocks [] []
  block : {o : Oper} {os : List Oper} {parts more : List (List ℕ)} → Mixed (map precondition_line o.preconditions) (map effect_line o.effects) parts → Blocks os more → Blocks (o ∷ os) (operator_line o ∷ (parts ++ more))

-- bytes spell c: V lines, then blocks of operators, then T lines, with lines that say nothing between them
pub record Spells (bytes : List ℕ) (c : Content) : Type 0 where
  pub tidy : AllByRecursion (λ l. tidy l ≡ true) (pieces 10 bytes)
  pub middle : List (List ℕ)
  pub blocks : Blocks c.operators middle
  pub records : telling (pieces 10 bytes) ≡ map variable_line c.variables ++ (middle ++ map pattern_line c.patterns)

-- bytes are read as c just where they are no longer than a card may be, c is lawful, and they spell it
pub record Exactly (bytes : List ℕ) (c : Content) : Type 0 where
  pub read : meaning bytes ≡ Ok c → (length bytes ≤ 16384) × Lawful c × Spells bytes c
  pub back : length bytes ≤ 16384 → Lawful c → Spells bytes c → meaning bytes ≡ Ok c

-- one text of an operator: its O line, then its R lines, then its E lines
abbrev pub operator_lines : Oper → List (List ℕ)
operator_lines o = operator_line o ∷ (map precondition_line o.preconditions ++ map effect_line o.effects)

abbrev pub lines : Content → List (List ℕ)
lines c = map variable_line c.variables ++ (flat_map operator_lines c.operators ++ map pattern_line c.patterns)

-- the text of a card, each line ended by byte 10
unfoldable pub spelled : Content → List ℕ
spelled c = flat_map (λ l. l ++ 10 ∷ []) (lines c)

-- a lawful card is read back from the text that spells it, unless that is too long for a card
abbrev pub ReadBack : Content → Type 0
ReadBack c = Lawful c → length (spelled c) ≤ 16384 → meaning (spelled c) ≡ Ok c

-- whatever is read is lawful
abbrev pub KeepsRules : List ℕ → Type 0
KeepsRules bytes = (c : Content) → meaning bytes ≡ Ok c → Lawful c
