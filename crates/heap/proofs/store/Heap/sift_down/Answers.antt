-- An exchange with the lower child moves the flaw down.
use Rattle.std.proofs.Common.{arith}
use Rattle.heap.proofs.Heaps.{down_step}
use Rattle.heap.proofs.Keys.{sound_exchanged}
use Rattle.heap.proofs.store.Heap.sift_down.Goals as goal

pub loop-place-preserved : goal.loop-place-preserved
loop-place-preserved g c =
    let inv = c.loop-place.invariant in
    let m = g.met.K.Key in
    let h = c.loop-place.self in
    let child = c.lower_child-child in record {
      keys = inv.keys;
      count = inv.count;
      down = λ d. down_step g.K.Key.leq m.total m.trans h.keys.items h.ranking.order.items h.count c.exchange.new.self.order.items c.loop-place.place child.result (omega arith) child.ensures.within child.ensures.child c.exchange.ensures.order child.ensures.least c.if-at_most.ensures (inv.down d);
    }

pub invariant_of-self : goal.invariant_of-self
invariant_of-self g c =
    let h = c.loop-place.self in
    let child = c.lower_child-child in record {
      sound = sound_exchanged h.keys.items h.ranking.order.items h.count h.sound c.exchange.new.self.order.items c.loop-place.place child.result (omega arith) child.ensures.within (omega arith) c.exchange.ensures.order;
    }
