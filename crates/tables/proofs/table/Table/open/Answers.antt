-- What was tested is what an opened table keeps to, and its copies say the same.
use Rattle.std.proofs.Common.{refl, arith}
use Rattle.sas.proofs.Rules.{rules}
use Rattle.tasks.specs.View.{model_of}
use Rattle.tables.proofs.Opens.{graph_opened}
use Rattle.tables.proofs.Tabled.{opened_copy, table_of}
use Rattle.tables.proofs.table.Table.open.Goals as goal

pub invariant_of-result : goal.invariant_of-result
invariant_of-result c =
    let t = c.args.task.now in
    let made = c.in_ok-graph.ensures in
    let all = graph_opened (model_of t) c.args.pattern.now c.args.shares.now c.in_ok-graph.graph made.input made.task made.shares c.args.entries.now (rules (model_of t) t.rules) made.places (omega (arith, c.if-entries-graph.false)) (c.obeys.ensures.0 c.if-not-obeys.false) in
    record { opened = ∣ opened_copy _ _ _ _ _ _ _ _ _ c.in_ok-own.ensures c.in_ok-pattern.ensures.items c.in_ok-shares.ensures.items all ∣₁ }

pub returns : goal.returns
returns c =
    let t = c.args.task.now in
    let made = c.in_ok-graph.ensures in
    let all = graph_opened (model_of t) c.args.pattern.now c.args.shares.now c.in_ok-graph.graph made.input made.task made.shares c.args.entries.now (rules (model_of t) t.rules) made.places (omega (arith, c.if-entries-graph.false)) (c.obeys.ensures.0 c.if-not-obeys.false) in
    record {
      table = table_of (model_of t) c.args.pattern.now _ _ c.args.shares.now c.args.entries.now all _ c.in_ok-own.ensures c.in_ok-pattern.ensures.items c.in_ok-shares.ensures.items refl;
      opens = all.opens;
      why = tt;
    }
