-- The theorems are lemmas at this graph.
use lib.Dec.{T}
use Rattle.bestfirst.specs.Theorems.{problem}
use Rattle.bestfirst.proofs.Ends.{goal_bound, no_goal}
use Rattle.bestfirst.proofs.goal_is_least.Goals as goal

pub returns : goal.returns
returns c = record {
  found = λ G level s goal. goal_bound (problem G) level s (λ x. T (goal x));
  none = λ G level s goal. no_goal (problem G) level s (λ x. T (goal x));
}
