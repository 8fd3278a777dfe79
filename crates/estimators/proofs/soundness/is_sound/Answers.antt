-- The tests are those of soundness, and the laws make heights bounds.
use Rattle.sas.proofs.Rules.{rules}
use Rattle.tasks.specs.View.{model_of}
use Rattle.estimators.proofs.Sounded.{sounded}
use Rattle.estimators.proofs.soundness.is_sound.Goals as goal

pub returns-then-is_for : goal.returns-then-is_for
returns-then-is_for g c =
    let task = c.args.task.now in
    let suited = c.is_for.ensures.0 c.if-is_for.true in
    let all = sounded g.E.Estimator.lawful c.args.pile.now (model_of task) (rules (model_of task) task.rules) suited c.args.rows.now in
    let answer = all c.first_overcharged.result c.is_none.result c.is_none.ensures c.first_overcharged.ensures in
    record { decides = answer.0; bounds = answer.1 }
