-- What a card holds: what it says, and its task.
use Rattle.std.specs.Prelude.{ℕ, List, map}
use Rattle.cards.specs.Content.{Content}
use Rattle.cards.specs.Reading.{content}
use Rattle.drafts.specs.View.{said}
use Rattle.sas.specs.Model.{Model}
use Rattle.tasks.specs.View.{model_of}
use Rattle.tasks.specs.declared.card.Card.{Card}

abbrev pub contents : Card → Content
contents k = content (said k.draft)

abbrev pub model_in : Card → Model
model_in k = model_of k.task

-- the value that each variable starts with, and the cost of each operator
abbrev pub starts : Content → List ℕ
starts c = map (λ v. v.start) c.variables

abbrev pub costs : Content → List ℕ
costs c = map (λ o. o.cost) c.operators
