-- A rank that is taken has its least cost; where nothing waits, every entry is exact.
use Rattle.std.proofs.Common.{◌∙◌, arith, get_or-set_other}
use Rattle.projections.proofs.Held.{held_shaped}
use Rattle.tables.specs.Weighted.{cost_of, task_of}
use Rattle.tables.proofs.Costs.{tells_state}
use Rattle.tables.proofs.Holding.{graph_fixed}
use Rattle.tables.proofs.Runs.{few_states, finished}
use Rattle.tables.proofs.Turns.{turn}
use Rattle.tables.proofs.building.run.Goals as goal

pub offset_bounds-entries-t : goal.offset_bounds-entries-t
offset_bounds-entries-t g c =
    let x = turn c.requires.long c.loop-t.auto.entries c.loop-t.invariant.0 (c.in-Some.ensures c.loop-t.invariant.0.ordered) in
    omega (arith, x.below, c.args.graph.now.sized, few_states (task_of c.args.graph.now) (held_shaped c.args.graph.now.projection))

pub bounds-entries-t : goal.bounds-entries-t
bounds-entries-t g c =
    let x = turn c.requires.long c.loop-t.auto.entries c.loop-t.invariant.0 (c.in-Some.ensures c.loop-t.invariant.0.ordered) in
    omega (arith, x.below, c.requires.long, c.loop-t.auto.entries)

pub loop-t-smaller : goal.loop-t-smaller
loop-t-smaller g c =
    let x = turn c.requires.long c.loop-t.auto.entries c.loop-t.invariant.0 (c.in-Some.ensures c.loop-t.invariant.0.ordered) in
    omega (arith, x.fewer)

pub look_at_all-requires : goal.look_at_all-requires
look_at_all-requires g c =
    let x = turn c.requires.long c.loop-t.auto.entries c.loop-t.invariant.0 (c.in-Some.ensures c.loop-t.invariant.0.ordered) in
    x.ready

pub loop-t-preserved : goal.loop-t-preserved
loop-t-preserved g c =
    let k = c.in-Some.ensures c.loop-t.invariant.0.ordered in
    let x = turn c.requires.long c.loop-t.auto.entries c.loop-t.invariant.0 (c.in-Some.ensures c.loop-t.invariant.0.ordered) in (
      x.goes c.look_at_all.new.list c.look_at_all.ensures,
      omega (arith, c.look_at_all.ensures.places, k.only.kept, c.loop-t.invariant.1),
      λ v h. get_or-set_other c.loop-t.entries c.in-Some.t v c.in-Some.d.0 0 (λ e. omega (arith, h, e, x.below)) ∙ c.loop-t.invariant.2 v h,
    )

pub returns : goal.returns
returns g c =
    let w = g.W.WaitingList in
    let graph = c.args.graph.now in
    let F = graph_fixed graph _ c.requires.long in
    let e = c.in_default.ensures c.loop-t.invariant.0.ordered in
    record {
      emptied = record { sized = omega (arith, e.after.sized, c.loop-t.invariant.1); none = e.after.none; still = e.after.still };
      built =
          record {
            exact = tells_state (task_of graph) (cost_of graph) F.shaped c.loop-t.entries (λ k h. finished (task_of graph) (cost_of graph) graph.states c.loop-t.entries (w.waiting c.loop-t.list) c.loop-t.invariant.0.going e.before k (omega (arith, h, F.size)));
            rest = λ k h. c.loop-t.invariant.2 k (omega (arith, h, F.size));
            long = c.loop-t.auto.entries;
          };
    }
