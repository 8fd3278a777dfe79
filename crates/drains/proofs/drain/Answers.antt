-- Each turn takes one pair more; where nothing is left, or as many are taken as there are places, all are given.
use Rattle.std.proofs.Common.{vec_items, arith}
use Rattle.drains.proofs.Parts.{part_more, part_end, part_full}
use Rattle.drains.proofs.drain.Goals as goal

pub returns-in_default : goal.returns-in_default
returns-in_default g c o =
    let m = g.W.WaitingList in
    let part = c.loop.invariant.2 o in
    part_end m.places m.waiting m.ordered g.W.Key.Key.leq c.args.w.now (vec_items c.loop.out) c.loop.w part c.take.new.self (c.in_default.ensures part.still)

pub loop-preserved : goal.loop-preserved
loop-preserved g c =
    let m = g.W.WaitingList in
    let pushed = c.push_reserved.ensures in (
      omega arith,
      omega arith,
      (λ o.
          let part = c.loop.invariant.2 o in
          rw pushed.items (part_more m.places m.waiting m.ordered g.W.Key.Key.leq c.args.w.now (vec_items c.loop.out) c.loop.w c.take.new.self _ _ part (c.in-Some.ensures part.still))),
    )

pub returns : goal.returns
returns g c o =
    let m = g.W.WaitingList in
    let part = c.loop.invariant.2 o in
    part_full m.places m.waiting m.ordered g.W.Key.Key.leq c.args.w.now (vec_items c.loop.out) c.loop.w part
    g.met.W.WaitingList.within o (omega (arith, c.loop.out.ok.0, c.capacity-capacity.ensures))
