-- The step from the state of the rank is the step by ranks.
use Rattle.std.proofs.Common.{rules}
use Rattle.sas.proofs.Rules as Rules
use Rattle.tasks.specs.View.{model_of}
use Rattle.states.proofs.AtRank.{step_told}
use Rattle.states.proofs.steps.successor.Goals as goal

pub returns : goal.returns
returns c =
    let t = c.args.task.now in
    let m = model_of t in
    rw c.flatten.ensures (step_told m c.args.rank (Rules.rules m t.rules) c.args.operator _ (λ s u t k. search rules) c.at_rank.result c.at_rank.ensures)
