-- The blind estimator: for the tasks equal to its own, with nothing but 0; and that it is lawful.
use Rattle.std.specs.Prelude.{◌≡◌, ℕ, Option, refl}
use Rattle.std.proofs.Common.{arith}
use Rattle.sas.specs.Model.{Model, Rules}
use Rattle.sas.specs.Ranks.{states}
use Rattle.sas.specs.Same.{Same}
use Rattle.sas.proofs.Alike.{alike}
use Rattle.sas.proofs.Moves.{goal_rank_inside, step_rank_inside}
use Rattle.sas.proofs.Rules.{rules}
use Rattle.tasks.specs.View.{model_of}
use Rattle.tasks.specs.declared.task.Task.{Task}
use Rattle.estimators.specs.Heights.{flat, flat_inside, flat_outside, flat_held, flat_falls}
use Rattle.estimators.specs.Laws.{EstimatorLaws}
use Rattle.estimators.specs.declared.blind.Blind.{Blind}

abbrev pub blind_suits : Blind → Model → Type 0
blind_suits e m = Same (model_of e.own) m

abbrev pub blind_heights : Blind → ℕ → Option ℕ
blind_heights e k = flat (states (model_of e.own)) k

-- equal tasks have as many states
same_states : (t : Task) (m : Model) → Rules m → Same (model_of t) m → states (model_of t) ≡ states m
same_states t m r same = (alike (model_of t) m (rules (model_of t) t.rules) r same).count

pub blind_lawful : EstimatorLaws blind_suits (λ _ _. 0) blind_heights
blind_lawful = record {
  goal = λ e m r suits k g. flat_inside (states (model_of e.own)) k (omega (arith, goal_rank_inside m k g, same_states e.own m r suits));
  step = λ e m r suits o s t d. flat_falls 0 (states (model_of e.own)) s t (omega (arith, (step_rank_inside m r o s t d).0, same_states e.own m r suits));
  light = λ e o. omega arith;
  low = λ e k. flat_held (states (model_of e.own)) k;
  idle = λ e m r suits o h. refl;
  outside = λ e m r suits k h. flat_outside (states (model_of e.own)) k (omega (arith, same_states e.own m r suits));
}
