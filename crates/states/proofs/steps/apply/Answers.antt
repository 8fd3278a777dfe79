-- Where the operator applies, the effects that are put in make its step.
use Rattle.std.proofs.Common.{◌<◌, length, sym, ap, ◌∙◌, subst}
use Rattle.std.specs.List.{AllByRecursion}
use Rattle.sas.specs.States.{outcome}
use Rattle.sas.proofs.Rules.{rules}
use Rattle.sas.proofs.Steps.{step_is, effects_inside}
use Rattle.tasks.specs.View.{model_of}
use Rattle.states.proofs.steps.apply.Goals as goal

pub put-requires : goal.put-requires
put-requires c =
    let t = c.args.task.now in
    let s = c.args.values.now in
    let found = c.in-Some.ensures in
    subst (AllByRecursion (λ f. f.variable < length s)) (sym (c.effects.ensures ∙ ap (λ a. a.effects) found.1)) (effects_inside (model_of t) (rules (model_of t) t.rules) c.args.operator s found.0)

pub returns-clause-moved : goal.returns-clause-moved
returns-clause-moved c _ =
    let s = c.args.values.now in
    let found = c.in-Some.ensures in
    (step_is (model_of c.args.task.now) c.args.operator s c.put.new.values).1 (found.0, c.put.ensures ∙ ap (λ fs. outcome fs s) (c.effects.ensures ∙ ap (λ a. a.effects) found.1))
