-- A heap but for the rank at a place, which may be too high.
use Rattle.std.proofs.Common.{◌≡◌, ◌-◌}
use Rattle.heap.specs.Rows.{DownTo}
use Rattle.heap.specs.Means.{heap_before}
use Rattle.heap.proofs.store.Heap.sift_down.Given as goal

abbrev pub invariant-loop-place : goal.invariant-loop-place
invariant-loop-place g l =
    let from = l.initial.self in
    record {
      keys : l.self.keys ≡ from.keys;
      count : l.self.count ≡ from.count;
      down : DownTo (heap_before g.K.Key.leq from) from.ranking.order.items from.count 0 → DownTo (heap_before g.K.Key.leq l.self) l.self.ranking.order.items l.self.count l.place;
    }

abbrev pub decreases-loop-place : goal.decreases-loop-place
decreases-loop-place g l = l.self.count - l.place
