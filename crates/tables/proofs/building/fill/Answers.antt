-- The goal states wait and nothing is set: so the search begins.
use Rattle.std.proofs.Common.{◌≡◌, ◌≤◌, ◌++◌, length, drop, ◌∙◌, arith}
use Rattle.tables.specs.Weighted.{cost_of, task_of}
use Rattle.tables.proofs.Holding.{graph_fixed}
use Rattle.tables.proofs.Runs.{begun}
use Rattle.tables.proofs.Wiped.{wiped_length, wiped_low, wiped_rest}
use Rattle.tables.proofs.building.fill.Goals as goal

pub run-requires : goal.run-requires
run-requires g c =
    let graph = c.args.graph.now in
    let wiped : length (c.fill.new.self ++ drop graph.states c.args.entries.now) ≡ length c.args.entries.now = wiped_length graph.states c.args.entries.now c.fill.new.self c.requires.long (c.fill.ensures.after (λ y e. e)) in
    let long : graph.states ≤ length (c.fill.new.self ++ drop graph.states c.args.entries.now) = omega (arith, c.requires.long, wiped) in
    record {
      long = long;
      goes = record {
        ordered = c.seed.ensures.ordered;
        room = omega (arith, c.requires.room, c.clear.ensures.sized, c.seed.ensures.places);
        going = begun (task_of graph) (cost_of graph) graph.states _ _ _ (graph_fixed graph _ long) (wiped_low graph.states c.args.entries.now c.fill.new.self c.requires.long (c.fill.ensures.after (λ y e. e))) c.seed.ensures.seeded;
      };
    }

pub returns-clause-built : goal.returns-clause-built
returns-clause-built g c =
    let graph = c.args.graph.now in
    let built = c.run.ensures.built in
    record {
      exact = built.exact;
      rest = λ k h. built.rest k h ∙ wiped_rest graph.states c.args.entries.now c.fill.new.self c.requires.long (c.fill.ensures.after (λ y e. e)) k (omega (arith, h, graph.sized));
      long = built.long ∙ wiped_length graph.states c.args.entries.now c.fill.new.self c.requires.long (c.fill.ensures.after (λ y e. e));
    }
