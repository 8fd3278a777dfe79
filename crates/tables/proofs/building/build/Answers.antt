-- What was built opens.
use Rattle.std.proofs.Common.{ap, arith}
use Rattle.sas.specs.Ranks.{states}
use Rattle.tasks.specs.View.{model_of}
use Rattle.tables.proofs.Opens.{built_opens}
use Rattle.tables.proofs.building.build.Goals as goal

pub returns : goal.returns
returns g c =
    let made = c.in_ok-graph.ensures in
    let graph = c.in_ok-graph.graph in
    let r = built_opens (model_of c.args.task.now) c.args.pattern.now c.args.shares.now graph made.input made.task made.shares c.args.entries.now c.fill.new.entries (omega (arith, c.if-entries-graph.false)) c.fill.ensures.built in
    record {
      built = r.0;
      opens = r.1;
      emptied = c.fill.ensures.emptied;
      room = omega (arith, c.if-capacity-graph.false, c.capacity.ensures, graph.sized, ap states made.task);
      why = tt;
      untouched = tt;
    }
