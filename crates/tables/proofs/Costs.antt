-- Runs from rank to rank are runs from state to state.
use Rattle.std.proofs.Common.{◌≡◌, ℕ, ◌+◌, ◌<◌, List, [], ◌∷◌, sym, refl, ap, ◌∙◌, inl, inr, ⊎_elim}
use Rattle.bestfirst.specs.Problem.{total}
use Rattle.bestfirst.specs.Problem as Graph
use Rattle.bestfirst.specs.Table.{Ahead}
use Rattle.projections.specs.Projection.{Remains}
use Rattle.projections.specs.Shapes.{Shaped}
use Rattle.projections.proofs.Edges.{step_into}
use Rattle.sas.specs.Model.{Model}
use Rattle.sas.specs.Ranks.{rank, states, GoalRank}
use Rattle.sas.specs.Runs.{Run, stay, step, cost}
use Rattle.sas.specs.States.{State}
use Rattle.sas.proofs.Moves.{step_rank, step_from, goal_rank, goal_of_rank}
use Rattle.sas.proofs.Unranks.{rank_below}
use Rattle.tables.specs.Backwards.{forward}
use Rattle.tables.specs.Costs.{Reaches, Tells}
use Rattle.tables.specs.Entries.{entry}
use Rattle.tables.proofs.Runs.{TellsRank}

total_cost : (each : ℕ → ℕ) (os : List ℕ) → total each os ≡ cost each os
total_cost each [] = refl
total_cost each (o ∷ os) = ap (λ n. each o + n) (total_cost each os)

module _ (p : Model) (each : ℕ → ℕ) where
  by_rank : {s t os : List ℕ} → Run p (Remains p) s os t → Graph.Run (forward p each) (rank p.sizes s) os (rank p.sizes t)
  by_rank (stay h) = Graph.stay
  by_rank (step {o} {s} {t} a d r) = Graph.step (a, step_rank p o s t d) (by_rank r)

  pub reaches_ahead : (s : List ℕ) (c : ℕ) → Reaches p each s c → Ahead (forward p each) (GoalRank p) (rank p.sizes s) c
  reaches_ahead s c r = record { to = rank p.sizes r.to; target = goal_rank p r.to r.goal; ops = r.operators; run = by_rank r.run; sum = total_cost each r.operators ∙ r.sum }

  module _ (shaped : Shaped p) where
    by_state : {k l : ℕ} {os : List ℕ} → Graph.Run (forward p each) k os l → (s : List ℕ) → State p.sizes s → rank p.sizes s ≡ k → (t : List ℕ) × Run p (Remains p) s os t × (rank p.sizes t ≡ l) × State p.sizes t
    by_state Graph.stay s h e = (s, stay h, e, h)
    by_state (Graph.step {u} {o} {v} d r) s h e =
        let f = step_from p o u v s h e d.1 in
        let rest = by_state r f.0 (step_into p shaped o s f.0 f.1) f.2 in
        (rest.0, step d.0 f.1 rest.1, rest.2, rest.3)

    pub ahead_reaches : (s : List ℕ) (c : ℕ) → State p.sizes s → Ahead (forward p each) (GoalRank p) (rank p.sizes s) c → Reaches p each s c
    ahead_reaches s c h a =
        let r = by_state a.run s h refl in
        record { operators = a.ops; to = r.0; run = r.1; goal = goal_of_rank p a.to r.0 r.3 r.2 a.target; sum = sym (total_cost each a.ops) ∙ a.sum }

    -- what is known of each rank is known of each state
    pub tells_state : (entries : List ℕ) → ((k : ℕ) → k < states p → TellsRank p each k (entry entries k)) → (s : List ℕ) → State p.sizes s → Tells p each s (entry entries (rank p.sizes s))
    tells_state entries all s h = ⊎_elim
        (λ x. inl (x.0, λ c r. x.1 c (reaches_ahead s c r)))
        (λ x. inr (x.0, ahead_reaches s _ h x.1, λ c r. x.2 c (reaches_ahead s c r)))
        (all (rank p.sizes s) (rank_below p s h))
