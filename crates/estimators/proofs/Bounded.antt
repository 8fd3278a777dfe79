-- By the laws alone, no run at costs of at least the shares costs less than the height where it starts.
use Rattle.std.proofs.Common.{ℕ, ◌≤◌, List, Option, sym, subst, arith}
use Rattle.sas.specs.Model.{Model, Rules}
use Rattle.sas.specs.Ranks.{rank}
use Rattle.sas.specs.Runs.{Run, stay, step, cost}
use Rattle.sas.specs.States.{Goal}
use Rattle.sas.proofs.Moves.{goal_rank, step_rank}
use Rattle.estimators.specs.Bounds.{Bounds}
use Rattle.estimators.specs.Heights.{Admits, falls_admits, falls_more}
use Rattle.estimators.specs.Laws.{EstimatorLaws}

module _
    {S : Type 0}
    {suits : S → Model → Type 0}
    {shares : S → ℕ → ℕ}
    {heights : S → ℕ → Option ℕ}
    (laws : EstimatorLaws suits shares heights)
    (e : S)
    (m : Model)
    (r : Rules m)
    (suited : suits e m)
    (allowed : ℕ → Type 0)
    (each : ℕ → ℕ)
    (fair : (o : ℕ) → allowed o → shares e o ≤ each o) where
  admitted : {s os t : List ℕ} → Run m allowed s os t → Goal m t → Admits (heights e (rank m.sizes s)) (cost each os)
  admitted {s} (stay h) g = subst (λ x. Admits x 0) (sym (laws.goal e m r suited (rank m.sizes s) (goal_rank m s g))) (omega arith)
  admitted {s} (step {o} {t = u} {os = os} ok d more) g =
      let x = heights e (rank m.sizes s) in
      let y = heights e (rank m.sizes u) in
      let falls = laws.step e m r suited o (rank m.sizes s) (rank m.sizes u) (step_rank m o s u d) in
      falls_admits (each o) (cost each os) x y (falls_more (shares e o) (each o) x y (fair o ok) falls) (admitted more g)

  pub bounded : Bounds m allowed each (heights e)
  bounded = record {
    least = λ s t os h run g is. subst (λ x. Admits x (cost each os)) is (admitted run g);
    none = λ s t os run g is. subst (λ x. Admits x (cost each os)) is (admitted run g);
  }
