-- What an opened table holds, for its calls.
use Rattle.std.proofs.Common.{◌≡◌, ℕ, ◌<◌, ◌≤◌, List, length, vec_items, ap, ◌∙◌, arith}
use mathlib.Core.Logic.{∥∥₁_elim}
use native.Mathlib.Bridge.{le_prop}
use native.Mathlib.Nat.{ℕ_set}
use Rattle.projections.specs.Parts.{folded, scales}
use Rattle.projections.specs.Projection.{among, only, projected, Remains}
use Rattle.projections.specs.View.{places_of, view_of}
use Rattle.projections.proofs.Edges.{remains_number}
use Rattle.projections.proofs.Held.{held_shaped}
use Rattle.projections.proofs.Projecting.{operators_projected, sizes_projected}
use Rattle.sas.specs.Ranks.{states}
use Rattle.sas.specs.States.{operator}
use Rattle.tasks.specs.View.{model_of}
use Rattle.tables.specs.Backwards.{Fixed}
use Rattle.tables.specs.Estimates.{rank_in}
use Rattle.tables.specs.Weighted.{cost_of, task_of}
use Rattle.tables.specs.declared.table.Table.{Table}
use Rattle.tables.specs.declared.weighted.Weighted.{Weighted}
use Rattle.tables.proofs.Runs.{few_states}

module _ (t : Table) where
  abbrev keep_of : List ℕ
  keep_of = vec_items t.pattern

  pub table_effects : (o : ℕ) → length (operator (view_of t.projection) o).effects ≡ length (operator (projected (among keep_of) (model_of t.own)) o).effects
  table_effects o = ∥∥₁_elim t.opened (ℕ_set _ _) (λ O. ap (λ q. length (operator q o).effects) O.view)

  pub table_share : (o : ℕ) → Remains (view_of t.projection) o → o < length (vec_items t.shares)
  table_share o r = ∥∥₁_elim t.opened le_prop (λ O. omega (arith, remains_number (view_of t.projection) o r, ap (λ q. length q.operators) O.view, operators_projected (among keep_of) (model_of t.own), O.opens.input.count))

  pub table_rank : (k : ℕ) → folded (places_of t.projection) (view_of t.projection).sizes k ≡ rank_in (model_of t.own) keep_of k
  table_rank k = ∥∥₁_elim t.opened (ℕ_set _ _) (λ O. ap (λ x. folded x (view_of t.projection).sizes k) O.placed ∙ ap (λ z. folded (only (among keep_of) (scales (model_of t.own).sizes)) z k) (ap (λ q. q.sizes) O.view ∙ sizes_projected (among keep_of) (model_of t.own)))

  pub table_long : states (view_of t.projection) ≤ length t.entries.now
  table_long = ∥∥₁_elim t.opened le_prop (λ O. omega (arith, ap states O.view, O.opens.long))

  pub table_few : states (view_of t.projection) ≤ 1048576
  table_few = ∥∥₁_elim t.projection.shaped le_prop (few_states (view_of t.projection))

-- what a graph fixes over any entries that are as many as its states
pub graph_fixed : (graph : Weighted) (long : ℕ) → graph.states ≤ long → Fixed (task_of graph) (cost_of graph) graph.states long
graph_fixed graph long room = record { shaped = held_shaped graph.projection; light = graph.light; size = graph.sized; long = room }
