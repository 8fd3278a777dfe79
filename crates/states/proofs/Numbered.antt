-- An operator that is read is the model's.
use Rattle.std.proofs.Common.{◌≡◌, ℕ, ◌<◌, List, map, length, get_or, sym, ap, ◌∙◌}
use Rattle.std.proofs.lemmas.List.{get_or-map, length-map}
use Rattle.sas.specs.Model.{Model}
use Rattle.sas.specs.States.{operator, idle}
use Rattle.tasks.specs.Parts.{action}
use Rattle.tasks.specs.declared.task.Operator.{Operator}

pub operator_count : (m : Model) (xs : List Operator) → map action xs ≡ m.operators → length xs ≡ length m.operators
operator_count m xs is = sym (length-map xs action) ∙ ap length is

pub action_read : (xs : List Operator) (o : ℕ) (x : Operator) → o < length xs → x ≡ get_or xs o x → action x ≡ get_or (map action xs) o idle
action_read xs o x within read = ap action read ∙ sym (get_or-map action xs o x idle within)

pub operator_read : (m : Model) (xs : List Operator) (o : ℕ) (x : Operator) → map action xs ≡ m.operators → o < length xs → x ≡ get_or xs o x → action x ≡ operator m o
operator_read m xs o x is within read = action_read xs o x within read ∙ ap (λ ys. get_or ys o idle) is
