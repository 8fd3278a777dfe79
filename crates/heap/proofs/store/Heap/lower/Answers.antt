-- A lower key may be too low for its place only.
use Rattle.std.proofs.Common.{arith}
use Rattle.heap.proofs.Keys.{lowered}
use Rattle.heap.proofs.store.Heap.lower.Goals as goal

pub returns-clause-heaped : goal.returns-clause-heaped
returns-clause-heaped g c heaped =
    let h = c.args.self.now in
    let m = g.met.K.Key in
    c.sift_up.ensures.heaped
    (lowered h.keys.items h.ranking.order.items h.count h.sound h.ranking.spots.items h.ranking.inverse g.K.Key.leq m.total m.trans heaped c.place_of-place.result c.args.rank c.args.key (omega arith) c.place_of-place.ensures.there c.requires)
