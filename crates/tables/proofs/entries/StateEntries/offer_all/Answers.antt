-- Each choice of the free variables is a rank from which the operator leads to t, and there are no others.
use Rattle.std.proofs.Common.{◌≡◌, ◌+◌, ◌<◌, refl, ap, ◌∙◌, inl, inr, ⊎_elim, arith}
use Rattle.projections.specs.Origins.{free, offset, ways}
use Rattle.projections.proofs.Edges.{edge_inside}
use Rattle.tables.specs.Weighted.{cost_of, task_of}
use Rattle.tables.proofs.Looks.{later_start, later_next, later_end}
use Rattle.tables.proofs.Runs.{few_states}
use Rattle.tables.proofs.entries.StateEntries.offer_all.Goals as goal

pub loop-n-init : goal.loop-n-init
loop-n-init g c =
    let graph = c.args.self.now.graph.now in
    record {
      ordered = c.requires.ready.ordered;
      places = refl;
      capped = λ v d e. inl e;
      sofar = later_start (task_of graph) (cost_of graph) c.args.self.now.entries.now graph.states c.args.t c.args.g c.args.operator c.args.origin c.requires.origin (g.W.WaitingList.waiting c.args.list.now) c.requires.ready.sofar;
    }

pub overflow_add-cost : goal.overflow_add-cost
overflow_add-cost g c = omega (arith, c.requires.ready.looking.small, c.requires.ready.looking.fixed.light c.args.operator, c.share.ensures)

pub overflow_add-from : goal.overflow_add-from
overflow_add-from g c =
    let p = task_of c.args.self.now.graph.now in
    let within : c.loop-n.n < ways p.sizes (free p c.args.operator) = omega (arith, c.loop-n-test.true, c.ways-n-end.ensures) in
    let edge = c.requires.origin.leads c.loop-n.n within in
    omega (arith, (edge_inside p c.requires.ready.looking.fixed.shaped _ _ _ edge).0, few_states p c.requires.ready.looking.fixed.shaped, c.offset.ensures)

pub offer-requires : goal.offer-requires
offer-requires g c =
    let p = task_of c.args.self.now.graph.now in
    let within : c.loop-n.n < ways p.sizes (free p c.args.operator) = omega (arith, c.loop-n-test.true, c.ways-n-end.ensures) in
    let edge = c.requires.origin.leads c.loop-n.n within in
    record {
      ordered = c.loop-n.invariant.ordered;
      below = omega (arith, (edge_inside p c.requires.ready.looking.fixed.shaped _ _ _ edge).0, c.offset.ensures, c.requires.ready.looking.fixed.size);
      room = omega (arith, c.requires.ready.room, c.loop-n.invariant.places);
      unset = c.loop-n.invariant.sofar.unset;
    }

pub loop-n-preserved : goal.loop-n-preserved
loop-n-preserved g c =
    let graph = c.args.self.now.graph.now in
    let p = task_of graph in
    let o = c.args.operator in
    let inv = c.loop-n.invariant in
    let within : c.loop-n.n < ways p.sizes (free p o) = omega (arith, c.loop-n-test.true, c.ways-n-end.ensures) in
    let cost : c.args.g + c.share.result ≡ c.args.g + cost_of graph o = ap (λ k. c.args.g + k) {y = cost_of graph o} c.share.ensures in
    record {
      ordered = c.offer.ensures.ordered;
      places = c.offer.ensures.places ∙ inv.places;
      capped = λ v d e. ⊎_elim (inv.capped v d) (λ q. inr (omega (arith, q, c.requires.ready.looking.fixed.light o, c.share.ensures))) (c.offer.ensures.offered.keys v d e);
      sofar = later_next p (cost_of graph) c.args.self.now.entries.now graph.states c.args.t c.args.g o c.args.origin c.requires.origin c.loop-n.n _ _ (g.W.WaitingList.waiting c.loop-n.list) (g.W.WaitingList.waiting c.offer.new.list) within (ap (λ k. c.args.origin + k) {y = offset p.sizes (free p o) c.loop-n.n} c.offset.ensures) cost c.offer.ensures.offered inv.sofar;
    }

pub returns : goal.returns
returns g c =
    let graph = c.args.self.now.graph.now in
    let inv = c.loop-n.invariant in
    record {
      ordered = inv.ordered;
      places = inv.places;
      capped = inv.capped;
      sofar = later_end (task_of graph) (cost_of graph) c.args.self.now.entries.now graph.states c.args.t c.args.g c.args.operator c.args.origin c.requires.origin c.loop-n.n (g.W.WaitingList.waiting c.loop-n.list) (omega (arith, c.ways-n-end.ensures, c.loop-n-test.false)) inv.sofar;
    }
