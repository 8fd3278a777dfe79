use Rattle.benchplan.proofs.Following.{Along}
use Rattle.tasks.specs.View.{model_of}
use Rattle.benchplan.proofs.follow.follow.Given as goal

abbrev pub invariant-loop-step : goal.invariant-loop-step
invariant-loop-step l = Along (model_of l.task) l.costs l.initial.values l.steps l.values l.step-index l.cost
