-- A turn of the search over a waiting list: a rank is taken and gets its entry, and the steps to it are looked at.
use Rattle.std.proofs.Common.{◌≡◌, ℕ, ◌+◌, ◌<◌, ◌≤◌, List, length, set, Option, arith}
use Rattle.keys.specs.Orders.{by_number}
use Rattle.keys.specs.declared.Distance.{Distance}
use Rattle.lists.specs.Waits.{Taken}
use Rattle.tables.specs.Backwards.{Left}
use Rattle.tables.specs.Going.{marks}
use Rattle.tables.specs.Lists.{Goes, Looked, Ready}
use Rattle.tables.specs.Weighted.{cost_of, task_of}
use Rattle.tables.specs.declared.weighted.Weighted.{Weighted}
use Rattle.tables.proofs.Holding.{graph_fixed}
use Rattle.tables.proofs.Runs.{taken}

module _ {W : Type 0} {places_of : W → ℕ} {waiting_of : W → ℕ → Option Distance} {ordered_of : W → Type 0} {graph : Weighted} {long : ℕ} {entries : List ℕ} {before after : W} {t : ℕ} {d : Distance}
    (room : graph.states ≤ long) (inside : length entries ≡ long) (G : Goes places_of waiting_of ordered_of graph entries before) (k : Taken places_of waiting_of ordered_of by_number before t d after) where
  -- what holds in the turn, once t has its entry
  pub record Turn : Type 0 where
    pub below : t < graph.states
    pub ready : Ready places_of waiting_of ordered_of graph (set entries t d.0) t d.0 (Left t 0) after
    pub fewer : marks (set entries t d.0) graph.states + 1 ≡ marks entries graph.states
    pub goes : (list : W) → Looked places_of waiting_of ordered_of graph (set entries t d.0) t d.0 (Left t (length graph.shares.now)) after list → Goes places_of waiting_of ordered_of graph (set entries t d.0) list

  pub turn : Turn
  turn =
      let x = taken (task_of graph) (cost_of graph) graph.states long entries (waiting_of before) (waiting_of after) t d (graph_fixed graph long room) G.going inside k.here k.least k.gone k.only.same in
      record {
        below = x.below;
        ready = record { ordered = k.only.still; room = omega (arith, G.room, k.only.kept); looking = x.looking; sofar = x.sofar };
        fewer = x.fewer;
        goes = λ list looked. record {
          ordered = looked.ordered;
          room = omega (arith, G.room, k.only.kept, looked.places);
          going = x.going (waiting_of list) (length graph.shares.now) (omega (arith, graph.count)) looked.sofar looked.capped;
        };
      }
