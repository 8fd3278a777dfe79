-- What an answer to a card's bytes is: a refusal of the card by its number, line and field, or a plan of its task.
use Rattle.std.specs.Prelude.{◌≡◌, ℕ, List, Some, Ok, Err, Result, IfSome}
use Rattle.cards.specs.Content.{Content, task_of}
use Rattle.cards.specs.Faults.{card_number, card_place}
use Rattle.cards.specs.Reading.{meaning}
use Rattle.cards.specs.declared.CardFault.{CardFault}
use Rattle.tasks.specs.Contents.{starts, costs}
use Rattle.benchplan.specs.declared.answer.Plan.{Plan}
use Rattle.benchplan.specs.declared.refusal.Refusal.{Refusal}
use Rattle.benchplan.specs.Plans.{Kept}
use Rattle.benchplan.specs.Refusals.{refusal_number, refusal_place}

-- the number, the line and the field of a card's fault, unless the refusal has no number
abbrev pub RefusedFor : CardFault → Result Plan Refusal → Type 0
RefusedFor e (Ok plan) = ⊥
RefusedFor e (Err r) = IfSome (refusal_number r) (λ n. (card_number e ≡ Some n) × (card_place e ≡ refusal_place r))

-- the answer to a card that says c, or has a fault
abbrev pub AnsweredTo : Result Content CardFault → Result Plan Refusal → Type 0
AnsweredTo (Ok c) a = Kept (task_of c) (starts c) (costs c) a
AnsweredTo (Err e) a = RefusedFor e a

abbrev pub Answered : List ℕ → Result Plan Refusal → Type 0
Answered bytes a = AnsweredTo (meaning bytes) a
