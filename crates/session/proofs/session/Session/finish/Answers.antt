-- The effects are put in, since the operator of the step under way applies.
use Rattle.std.proofs.Common.{◌≡◌, ◌+◌, length, vec_items, ap, ◌∙◌, rules}
use Rattle.std.specs.Vec.{with_items}
use Rattle.std.proofs.lemmas.List.{with_items_is}
use Rattle.sas.specs.States.{Step}
use Rattle.sas.proofs.Rules.{rules as model_rules}
use Rattle.tasks.specs.View.{model_of}
use Rattle.session.specs.Bench.{bench}
use Rattle.session.specs.Changes.{held}
use Rattle.session.proofs.Ending.{bench_done, state_done, step_done}
use Rattle.session.proofs.session.Session.finish.Goals.{After-apply}
use Rattle.session.proofs.session.Session.finish.Goals as goal

-- from the session before to the values of the one after
stepped : (c : After-apply) → Step (model_of c.args.self.now.task) c.args.operator (vec_items c.args.self.now.state) (vec_items (with_items c.leave.new.self.state c.apply.new.values))
stepped c =
    let s = c.leave.new.self in
    let long : length c.apply.new.values ≡ s.state.len = search rules in
    step_done c.args.operator (bench c.args.self.now) (bench s) _ _ _ c.apply.result c.args.self.now.ready c.in_ok-leave.ensures.answered c.as_mut_slice.ensures.value (with_items_is s.state c.apply.new.values long) c.apply.ensures.moved c.apply.ensures.refused

pub returns-clause-moved : goal.returns-clause-moved
returns-clause-moved c = stepped (goal.at.returns-clause-moved c).After-apply

pub returns-clause-ended : goal.returns-clause-ended
returns-clause-ended c =
    let s = c.leave.new.self in
    let wear = c.added-self.ensures ∙ ap (λ r. held (s.wear + r.cost)) c.at.ensures in
    record { answered = bench_done c.args.operator (bench c.args.self.now) (bench s) _ c.added-self.result c.in_ok-leave.ensures.answered (stepped (goal.at.returns-clause-ended c).After-apply) wear; untouched = tt }

pub invariant_of-self-clause-sound : goal.invariant_of-self-clause-sound
invariant_of-self-clause-sound c =
    let s = c.args.self.now in
    state_done c.args.operator (bench s) (bench c.leave.new.self) _ (model_rules (model_of s.task) s.task.rules) c.in_ok-leave.ensures.answered (stepped (goal.at.invariant_of-self-clause-sound c).After-apply)
