-- What a draft says.
use Rattle.std.specs.Prelude.{map, vec_items}
use Rattle.fields.specs.Fields.{plain, text_of, line_of}
use Rattle.cards.specs.Content.{Var}
use Rattle.cards.specs.Reading.{Placed, Reading}
use Rattle.drafts.specs.declared.parts.Variable.{Variable}
use Rattle.drafts.specs.declared.parts.DraftOperator.{DraftOperator}
use Rattle.drafts.specs.declared.parts.Draft.{Draft}

abbrev pub plain_var : Variable → Var
plain_var v = record { name = text_of (plain v.name); size = v.size; start = v.start; goal = v.goal }

-- an operator with the line of its name
abbrev pub placed : DraftOperator → Placed
placed o = record {
  line = line_of (plain o.name);
  oper = record { name = text_of (plain o.name); cost = o.cost; preconditions = vec_items o.preconditions; effects = vec_items o.effects };
}

abbrev pub said : Draft → Reading
said d = record { vars = map plain_var (vec_items d.variables); opers = map placed (vec_items d.operators); patterns = map vec_items (vec_items d.patterns) }
