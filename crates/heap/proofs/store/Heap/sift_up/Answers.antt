-- An exchange with the parent moves the flaw up.
use Rattle.std.proofs.Common.{arith}
use Rattle.heap.specs.Rows.{up}
use Rattle.heap.proofs.Heaps.{up_step}
use Rattle.heap.proofs.Keys.{sound_exchanged}
use Rattle.heap.proofs.store.Heap.sift_up.Goals as goal

pub loop-place-preserved : goal.loop-place-preserved
loop-place-preserved g c =
    let inv = c.loop-place.invariant in
    let m = g.met.K.Key in
    let h = c.loop-place.self in record {
      keys = inv.keys;
      count = inv.count;
      here = omega arith;
      up = λ u. up_step g.K.Key.leq m.total m.trans h.keys.items h.ranking.order.items h.count c.exchange.new.self.order.items c.loop-place.place inv.here (omega arith) c.exchange.ensures.order c.if-at_most.ensures (inv.up u);
    }

pub invariant_of-self : goal.invariant_of-self
invariant_of-self g c =
    let h = c.loop-place.self in record {
      sound = sound_exchanged h.keys.items h.ranking.order.items h.count h.sound c.exchange.new.self.order.items (up c.loop-place.place) c.loop-place.place (omega arith) (omega arith) (omega arith) c.exchange.ensures.order;
    }
