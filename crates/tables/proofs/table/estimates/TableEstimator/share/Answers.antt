-- An operator with an effect in the pattern has its share.
use Rattle.std.proofs.Common.{◌<◌, ◌≤◌, ltb, length, vec_items, sym, ◌∙◌, arith}
use Rattle.std.proofs.lemmas.List.{get_or_default}
use Rattle.std.proofs.lemmas.Bool.{cond-true, cond-false, le-ltb, lt-ltb}
use Rattle.std.proofs.lemmas.Bool.Decides.{not_from_Decides}
use Rattle.projections.specs.Projection.{among, projected}
use Rattle.sas.specs.States.{operator}
use Rattle.tasks.specs.View.{model_of}
use Rattle.tables.specs.Costs.{share}
use Rattle.tables.specs.Tables.{table_shares}
use Rattle.tables.proofs.Holding.{table_effects, table_share}
use Rattle.tables.proofs.table.estimates.TableEstimator.share.Goals as goal

pub index-requires : goal.index-requires
index-requires c =
    let t = c.args.self.now in
    omega (arith, table_share t c.args.operator (c.remains.ensures.0 c.if-remains.true), t.shares.ok)

pub returns-then-remains : goal.returns-then-remains
returns-then-remains c =
    let t = c.args.self.now in
    let o = c.args.operator in
    let some = c.remains.ensures.0 c.if-remains.true in
    let more : 0 < length (operator (projected (among (vec_items t.pattern)) (model_of t.own)) o).effects = omega (arith, some, table_effects t o) in
    c.from.ensures ∙ c.index.ensures ∙ get_or_default (vec_items t.shares) o c.index.result.now 0 (table_share t o some) ∙ sym (cond-true _ _ 0 (lt-ltb 0 _ more))

pub returns-else-remains : goal.returns-else-remains
returns-else-remains c =
    let t = c.args.self.now in
    let o = c.args.operator in
    let none = not_from_Decides c.remains.result c.remains.ensures c.if-remains.false in
    let few : length (operator (projected (among (vec_items t.pattern)) (model_of t.own)) o).effects ≤ 0 = omega (arith, none, table_effects t o) in
    sym {a = table_shares t o} (cond-false (ltb 0 _) (share (vec_items t.shares) o) 0 (le-ltb 0 _ few))
