-- What the waiting list of a table that is being built has, over any type W that stands for one.
use Rattle.std.specs.Prelude.{◌≡◌, ℕ, ◌+◌, ◌≤◌, List, length, Option}
use Rattle.keys.specs.declared.Distance.{Distance}
use Rattle.tables.specs.Backwards.{Capped, Looking, Sofar}
use Rattle.tables.specs.Going.{Going}
use Rattle.tables.specs.Weighted.{cost_of, task_of}
use Rattle.tables.specs.declared.weighted.Weighted.{Weighted}

module _ {W : Type 0} (places_of : W → ℕ) (waiting_of : W → ℕ → Option Distance) (ordered_of : W → Type 0) (graph : Weighted) (entries : List ℕ) where
  -- between two ranks that are taken
  pub record Goes (list : W) : Type 0 where
    pub ordered : ordered_of list
    pub room : graph.states ≤ places_of list
    pub going : Going (task_of graph) (cost_of graph) graph.states entries (waiting_of list)

  module _ (t g : ℕ) (Pending : ℕ → ℕ → ℕ → Type 0) where
    -- before a look at pending steps to t, which was taken at g
    pub record Ready (list : W) : Type 0 where
      pub ordered : ordered_of list
      pub room : graph.states ≤ places_of list
      pub looking : Looking (task_of graph) (cost_of graph) graph.states (length entries) t g
      pub sofar : Sofar (task_of graph) (cost_of graph) entries graph.states t g Pending (waiting_of list)

    -- after a look, with these steps still pending
    pub record Looked (before after : W) : Type 0 where
      pub ordered : ordered_of after
      pub places : places_of after ≡ places_of before
      pub capped : Capped (g + 65535) (waiting_of before) (waiting_of after)
      pub sofar : Sofar (task_of graph) (cost_of graph) entries graph.states t g Pending (waiting_of after)
