-- So many pairs are given as there were turns, and there is memory for a pair in each turn to come.
use Rattle.std.proofs.Common.{◌≡◌, ◌≤◌, vec_items, vec_len, vec_capacity}
use Rattle.drains.proofs.Parts.{Part}
use Rattle.drains.proofs.drain.Given as goal

abbrev pub invariant-loop : goal.invariant-loop
invariant-loop g l =
    let m = g.W.WaitingList in
    (vec_len l.out ≡ l.counter)
    × (l.capacity ≤ vec_capacity l.out)
    × (m.ordered l.initial.w → Part m.places m.waiting m.ordered g.W.Key.Key.leq l.initial.w (vec_items l.out) l.w)
