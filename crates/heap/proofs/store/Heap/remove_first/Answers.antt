-- The last rank may be too high for the first place only.
use Rattle.heap.proofs.Keys.{removed}
use Rattle.heap.proofs.store.Heap.remove_first.Goals as goal

pub returns-clause-heaped : goal.returns-clause-heaped
returns-clause-heaped g c heaped =
    let h = c.args.self.now in
    let m = g.met.K.Key in
    c.sift_down.ensures.heaped
    (removed h.keys.items h.ranking.order.items h.count h.sound h.ranking.spots.items h.ranking.inverse g.K.Key.leq m.total m.trans heaped c.exchange.new.self.order.items c.at-rank.result c.requires c.at-rank.ensures c.exchange.ensures.order)
