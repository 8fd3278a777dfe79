-- A layer of two estimators is lawful, whatever may join their shares and heights.
use Rattle.std.proofs.Common.{ap}
use Rattle.std.specs.Prelude.{ℕ, Option, Some, refl}
use Rattle.sas.specs.Model.{Model}
use Rattle.estimators.specs.Heights.{Joins, merged, merged_held, merged_falls}
use Rattle.estimators.specs.Laws.{EstimatorLaws}

module _
    {S X Y : Type 0}
    {suits_x : X → Model → Type 0}
    {shares_x : X → ℕ → ℕ}
    {heights_x : X → ℕ → Option ℕ}
    {suits_y : Y → Model → Type 0}
    {shares_y : Y → ℕ → ℕ}
    {heights_y : Y → ℕ → Option ℕ}
    (first : S → X)
    (second : S → Y)
    (f : ℕ → ℕ → ℕ)
    (by : Joins f)
    (on_x : EstimatorLaws suits_x shares_x heights_x)
    (on_y : EstimatorLaws suits_y shares_y heights_y) where
  pub layered : EstimatorLaws (λ (e : S) m. suits_x (first e) m × suits_y (second e) m) (λ e o. f (shares_x (first e) o) (shares_y (second e) o)) (λ e k. merged f (heights_x (first e) k) (heights_y (second e) k))
  layered = record {
    goal = λ e m r suits k g. rw (on_x.goal (first e) m r suits.0 k g, on_y.goal (second e) m r suits.1 k g) (ap Some by.none);
    step = λ e m r suits o s t d. merged_falls f by _ _ (heights_x (first e) s) (heights_y (second e) s) (heights_x (first e) t) (heights_y (second e) t) (on_x.step (first e) m r suits.0 o s t d) (on_y.step (second e) m r suits.1 o s t d);
    light = λ e o. by.held _ _ (on_x.light (first e) o) (on_y.light (second e) o);
    low = λ e k. merged_held f by (heights_x (first e) k) (heights_y (second e) k) (on_x.low (first e) k) (on_y.low (second e) k);
    idle = λ e m r suits o h. rw (on_x.idle (first e) m r suits.0 o h, on_y.idle (second e) m r suits.1 o h) by.none;
    outside = λ e m r suits k h. rw (on_x.outside (first e) m r suits.0 k h) refl;
  }
