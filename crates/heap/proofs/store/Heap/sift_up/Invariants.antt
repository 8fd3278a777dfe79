-- A heap but for the rank at a place, which may be too low.
use Rattle.std.proofs.Common.{◌≡◌, ◌<◌}
use Rattle.heap.specs.Rows.{UpTo}
use Rattle.heap.specs.Means.{heap_before}
use Rattle.heap.proofs.store.Heap.sift_up.Given as goal

abbrev pub invariant-loop-place : goal.invariant-loop-place
invariant-loop-place g l =
    let from = l.initial.self in
    record {
      keys : l.self.keys ≡ from.keys;
      count : l.self.count ≡ from.count;
      here : l.place < l.self.count;
      up : UpTo (heap_before g.K.Key.leq from) from.ranking.order.items from.count l.start → UpTo (heap_before g.K.Key.leq l.self) l.self.ranking.order.items l.self.count l.place;
    }

abbrev pub decreases-loop-place : goal.decreases-loop-place
decreases-loop-place g l = l.place
