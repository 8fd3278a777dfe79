-- The tests of the state and the goal decide whether it is a goal state.
use Rattle.std.proofs.Common.{◌<◌, length, Decides, rules, subst}
use Rattle.std.specs.List.{AllByRecursion}
use Rattle.std.proofs.lemmas.Iterator.{YieldsList-from_slice}
use Rattle.sas.specs.States.{Stands}
use Rattle.sas.proofs.Rules as Rules
use Rattle.sas.proofs.Steps.{goal_is, goal_decides}
use Rattle.tasks.specs.View.{model_of}
use Rattle.states.proofs.Each.{all_decides}
use Rattle.states.proofs.steps.is_goal.Goals as goal

pub returns-then-is_state : goal.returns-then-is_state
unfolding Stands
returns-then-is_state c =
    let t = c.args.task.now in
    let s = c.args.values.now in
    let each = all_decides (λ f. (f.variable < length s) × Stands f s) c.all.new.self _ c.all.result c.all.ensures.ran (YieldsList-from_slice c.goal.result.now cc) (λ x b q k. search rules) in
    goal_decides (model_of t) (Rules.rules (model_of t) t.rules) s c.all.result (c.is_state.ensures.0 c.if-is_state.true) (subst (λ fs. Decides c.all.result (AllByRecursion (λ f. (f.variable < length s) × Stands f s) fs)) c.goal.ensures each)

pub returns-else-is_state : goal.returns-else-is_state
returns-else-is_state c = (λ e. cc, λ g. c.is_state.ensures.1 ((goal_is (model_of c.args.task.now) c.args.values.now).0 g).0)
