-- Where the first rank has no key, none has, and otherwise its key is least.
use Rattle.std.proofs.Common.{◌≡◌, length, ◌<◌, get_or, Some, None, arith}
use Rattle.std.proofs.lemmas.List.{get_or_read}
use Rattle.heap.proofs.Keys.{none_waits, least_first}
use Rattle.heap.proofs.store.Heap.first.Goals as goal

pub returns-in_err-key-clause-none : goal.returns-in_err-key-clause-none
returns-in_err-key-clause-none g c _ q =
    let h = c.args.self.now in
    let keys = h.keys.items in
    let order = h.ranking.order.items in
    let rank = c.in_ok-rank.ensures.some in
    let low : c.in_ok-rank.rank < length keys = omega (arith, h.ranking.inverse.small 0, h.sound.long) in
    let read = get_or_read keys c.in_ok-rank.rank _ low c.index.ensures None in
    let first : get_or keys (get_or order 0 0) None ≡ None = cc (read, c.in_err-key.was, rank.1) in
    none_waits keys order h.count h.sound h.ranking.spots.items h.ranking.inverse first q

pub returns-clause-least : goal.returns-clause-least
returns-clause-least g c heaped =
    let h = c.args.self.now in
    let keys = h.keys.items in
    let order = h.ranking.order.items in
    let m = g.met.K.Key in
    let rank = c.in_ok-rank.ensures.some in
    let low : c.in_ok-rank.rank < length keys = omega (arith, h.ranking.inverse.small 0, h.sound.long) in
    let read = get_or_read keys c.in_ok-rank.rank _ low c.index.ensures None in
    let first : get_or keys (get_or order 0 0) None ≡ Some c.in_ok-key.key = cc (read, c.in_ok-key.was, rank.1) in
    least_first keys order h.count h.sound h.ranking.spots.items h.ranking.inverse g.K.Key.leq m.total m.trans heaped c.in_ok-key.key first
