-- A new rank may be too low for the place at the end only.
use Rattle.heap.proofs.Keys.{added}
use Rattle.heap.proofs.store.Heap.add.Goals as goal

pub returns-clause-heaped : goal.returns-clause-heaped
returns-clause-heaped g c heaped =
    let h = c.args.self.now in
    let m = g.met.K.Key in
    c.sift_up.ensures.heaped
    (added h.keys.items h.ranking.order.items h.count h.sound h.ranking.spots.items h.ranking.inverse g.K.Key.leq m.total m.trans heaped c.exchange.new.self.order.items c.place_of-place.result c.args.rank c.args.key c.place_of-place.ensures.within c.place_of-place.ensures.there c.requires.none c.exchange.ensures.order)
