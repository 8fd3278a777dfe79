-- What the step makes of a state has a rank.
use Rattle.sas.proofs.Rules as Rules
use Rattle.tasks.specs.View.{model_of}
use Rattle.states.proofs.AtRank.{ranked}
use Rattle.states.proofs.steps.rank_after.Goals as goal

pub returns : goal.returns
returns c =
    let t = c.args.task.now in
    let m = model_of t in
    rw c.ok.ensures.value (ranked m (Rules.rules m t.rules) c.args.operator c.args.values.now c.apply.new.values c.rank.result (c.apply.ensures.moved c.if-not-apply.false) c.rank.ensures)
