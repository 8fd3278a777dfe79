-- The goal is tested in the state of the rank.
use Rattle.std.proofs.Common.{rules}
use Rattle.tasks.specs.View.{model_of}
use Rattle.states.proofs.AtRank.{goal_told}
use Rattle.states.proofs.steps.is_goal_rank.Goals as goal

pub returns : goal.returns
returns c = rw c.unwrap_or.ensures (goal_told (model_of c.args.task.now) c.args.rank _ (λ s u t k. search rules) c.at_rank.result c.at_rank.ensures)
