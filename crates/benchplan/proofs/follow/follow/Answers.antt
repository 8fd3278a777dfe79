use Rattle.std.proofs.Common.{◌≡◌, ◌+◌, get_or, refl, subst, arith}
use Rattle.tasks.specs.View.{model_of}
use Rattle.benchplan.proofs.Following.{Along, begun, further, told}
use Rattle.benchplan.proofs.follow.follow.Goals as goal

pub loop-step-init : goal.loop-step-init
loop-step-init c = begun (model_of c.args.task.now) c.args.costs.now c.args.values.now c.args.steps.now

pub loop-step-preserved : goal.loop-step-preserved
loop-step-preserved c =
    let m = model_of c.args.task.now in
    let o = get_or c.args.steps.now c.loop-step.step-index 0 in
    let paid : c.loop-step.cost + get_or c.args.costs.now o 0 ≡ c.in_ok-cost.cost = omega (arith, c.in_ok-cost.ensures, c.from.ensures, c.in_ok-price.ensures.lookup.3.1 0) in
    subst (Along m c.args.costs.now c.args.values.now c.args.steps.now c.apply.new.values (c.loop-step.step-index + 1)) paid
    (further m c.args.costs.now c.args.values.now c.args.steps.now c.loop-step.values c.apply.new.values c.loop-step.step-index c.loop-step.cost c.loop-step-test.true (c.if-not-apply.ensures.moved refl) c.loop-step.invariant)

pub returns : goal.returns
returns c = rw c.then_some.ensures (told (model_of c.args.task.now) c.args.costs.now c.args.values.now c.args.steps.now c.loop-step.values c.loop-step.step-index c.loop-step.cost c.loop-step-test.false c.is_goal.result c.is_goal.ensures.0 c.loop-step.invariant)
