-- A table that is built obeys the laws.
use Rattle.std.proofs.Common.{◌≡◌, ℕ, ◌+◌, ◌<◌, ◌≤◌, Bool, eqb, List, [], ◌∷◌, length, get_or, Option, Some, None, Decides, sym, refl, ap, subst, ⊎_elim, arith}
use Rattle.std.proofs.lemmas.List.{get_or_past}
use Rattle.std.proofs.lemmas.Bool.{cond-true, cond-false, cases_lt, eq-eqb, ne_eqb}
use Rattle.estimators.specs.Heights.{Falls, Held, most}
use Rattle.projections.specs.Parts.{scales}
use Rattle.projections.specs.Projection.{Edge, Remains, among, only, projected}
use Rattle.projections.specs.Shapes.{Shaped}
use Rattle.projections.specs.View.{places_of}
use Rattle.projections.proofs.Edges.{edge_one, rank_onto, state_onto, step_into}
use Rattle.projections.proofs.Held.{held_shaped}
use Rattle.sas.specs.Model.{Model, Rules}
use Rattle.sas.specs.Ranks.{GoalRank, rank, states}
use Rattle.sas.specs.Runs.{stay, step}
use Rattle.sas.specs.States.{State, Step}
use Rattle.sas.proofs.Moves.{goal_of_rank, step_from}
use Rattle.sas.proofs.Unranks.{unrank}
use Rattle.tables.specs.Built.{Built}
use Rattle.tables.specs.Costs.{Reaches, Tells, mark, share}
use Rattle.tables.specs.Entries.{Obeys, ObeysAt, entry, height_at}
use Rattle.tables.specs.Input.{TableInput}
use Rattle.tables.specs.Opened.{Opened}
use Rattle.tables.specs.Refusals.{Opens}
use Rattle.tables.specs.Weighted.{cost_of, task_of}
use Rattle.tables.specs.declared.weighted.Weighted.{Weighted}

height_mark : (e : ℕ) → e ≡ mark → height_at e ≡ None
height_mark e is = cond-true (eqb e mark) None (Some e) (eq-eqb e mark is)

height_number : (e : ℕ) → (e ≡ mark → ⊥) → height_at e ≡ Some e
height_number e not = cond-false (eqb e mark) None (Some e) (ne_eqb e mark not)

height_low : (e : ℕ) → e ≤ most → height_at e ≡ Some e
height_low e low = height_number e (λ is. omega (arith, low, is))

-- no share is too high, past the last one either
pub all_shares_light : (shares : List ℕ) → ((o : ℕ) → o < length shares → get_or shares o 0 ≤ 65535) → (o : ℕ) → share shares o ≤ 65535
all_shares_light shares light o = ⊎_elim (light o) (λ l. omega (arith, get_or_past shares o 0 l)) (cases_lt o (length shares))

module _ (p : Model) (shaped : Shaped p) (each : ℕ → ℕ) (before after : List ℕ) (built : Built p each before after) where
  module _ (k : ℕ) (below : k < states p) where
    abbrev s : List ℕ
    s = unrank p.sizes k

    is_state : State p.sizes s
    is_state = state_onto p shaped k

    is_rank : rank p.sizes s ≡ k
    is_rank = rank_onto p shaped k below

    tells : Tells p each s (entry after k)
    tells = subst (λ n. Tells p each s (entry after n)) is_rank (built.exact s is_state)

    -- a step on leads to a run from here
    onward : (o c : ℕ) (t : List ℕ) → Remains p o → Step p o s t → Reaches p each t c → Reaches p each s (each o + c)
    onward o c t e d r = record { operators = o ∷ r.operators; to = r.to; run = step e d r.run; goal = r.goal; sum = ap (λ n. each o + n) r.sum }

    falls : (o l : ℕ) → Edge p o k l → Falls (each o) (height_at (entry after k)) (height_at (entry after l))
    falls o l e =
        let f = step_from p o k l s is_state is_rank e.1 in
        let there : Tells p each f.0 (entry after l) = subst (λ n. Tells p each f.0 (entry after n)) f.2 (built.exact f.0 (step_into p shaped o s f.0 f.1)) in
        ⊎_elim
        (λ y. subst (Falls (each o) (height_at (entry after k))) (sym (height_mark (entry after l) y.0)) tt)
        (λ y.
        let r = onward o (entry after l) f.0 e.0 f.1 y.1 in
        ⊎_elim
        (λ x. absurd (x.1 (each o + entry after l) r))
        (λ x. subst (λ h. Falls (each o) h (height_at (entry after l))) (sym (height_low (entry after k) x.0)) (subst (Falls (each o) (Some (entry after k))) (sym (height_low (entry after l) y.0)) (x.2 (each o + entry after l) r)))
        tells)
        there

    at_goal : GoalRank p k → Reaches p each s 0
    at_goal g = record { operators = []; to = s; run = stay is_state; goal = goal_of_rank p k s is_state is_rank g; sum = refl }

    obeys_at : ObeysAt p each after k
    obeys_at =
        record {
          held = ⊎_elim (λ x. subst Held (sym (height_mark (entry after k) x.0)) tt) (λ x. subst Held (sym (height_low (entry after k) x.0)) x.0) tells;
          goal = λ g. ⊎_elim (λ x. absurd (x.1 0 (at_goal g))) (λ x. let low = x.2 0 (at_goal g) in omega arith) tells;
          step = falls;
        }

  built_obeys : Obeys p each after
  built_obeys = obeys_at

-- over the graph of a pattern and shares, entries that obey the laws open
module _ (m : Model) (pattern shares : List ℕ) (graph : Weighted) (input : TableInput m pattern shares) (view : task_of graph ≡ projected (among pattern) m) (same : graph.shares.now ≡ shares) where
  pub graph_opens : (entries : List ℕ) → graph.states ≤ length entries → Obeys (task_of graph) (cost_of graph) entries → Opens m pattern shares entries
  graph_opens entries long obeys =
      record {
        input = input;
        long = omega (arith, long, graph.sized, ap states view);
        obeys = subst (λ q. Obeys q (share shares) entries) view (subst (λ (xs : List ℕ). Obeys (task_of graph) (share xs) entries) same obeys);
      }

  pub graph_opened : (entries : List ℕ) → Rules m → places_of graph.projection ≡ only (among pattern) (scales m.sizes) → graph.states ≤ length entries → Obeys (task_of graph) (cost_of graph) entries →
      Opened m pattern (task_of graph) (places_of graph.projection) shares entries
  graph_opened entries rules placed long obeys = record { rules = rules; view = view; placed = placed; opens = graph_opens entries long obeys }

  -- as what was built does
  pub built_opens : (before after : List ℕ) → graph.states ≤ length before → Built (task_of graph) (cost_of graph) before after →
      Built (projected (among pattern) m) (share shares) before after × Opens m pattern shares after
  built_opens before after long built = (
    subst (λ q. Built q (share shares) before after) view (subst (λ (xs : List ℕ). Built (task_of graph) (share xs) before after) same built),
    graph_opens after (omega (arith, long, built.long)) (built_obeys (task_of graph) (held_shaped graph.projection) (cost_of graph) before after built),
  )

-- the operator has just the one step from a rank
pub one_step : (p : Model) (each : ℕ → ℕ) (entries : List ℕ) (o k l : ℕ) → Edge p o k l → (b : Bool) {w : ℕ} {x y : Option ℕ} → w ≡ each o → x ≡ height_at (entry entries k) → y ≡ height_at (entry entries l) → Decides b (Falls w x y) →
    Decides b ((n : ℕ) → Edge p o k n → Falls (each o) (height_at (entry entries k)) (height_at (entry entries n)))
one_step p each entries o k l e b {w} {x} {y} cost from to d = (
  λ t n f. subst (λ z. Falls (each o) (height_at (entry entries k)) (height_at (entry entries z))) (edge_one p o k l n e f) (same.0 t),
  λ all. same.1 (all l e),
)
  where
    same : Decides b (Falls (each o) (height_at (entry entries k)) (height_at (entry entries l)))
    same = subst (λ z. Decides b (Falls (each o) (height_at (entry entries k)) z)) to (subst (λ z. Decides b (Falls (each o) z y)) from (subst (λ z. Decides b (Falls z x y)) cost d))
