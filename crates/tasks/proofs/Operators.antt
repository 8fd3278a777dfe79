-- Clones of operators have the actions of what they are clones of.
use Rattle.std.proofs.Common.{◌≡◌, List, [], ◌∷◌, map, refl}
use Rattle.std.specs.List.{AllZip}
use Rattle.tasks.specs.Parts.{action}
use Rattle.tasks.specs.declared.task.Operator.{Operator}

pub actions_cloned : (clones : Operator → Operator → Type 0) → ((x y : Operator) → clones x y → action y ≡ action x) → (xs ys : List Operator) → AllZip clones xs ys → map action ys ≡ map action xs
actions_cloned clones same [] [] h = refl
actions_cloned clones same [] (y ∷ ys) h = absurd h
actions_cloned clones same (x ∷ xs) [] h = absurd h
actions_cloned clones same (x ∷ xs) (y ∷ ys) h = λ i. same x y h.0 i ∷ actions_cloned clones same xs ys h.1 i
