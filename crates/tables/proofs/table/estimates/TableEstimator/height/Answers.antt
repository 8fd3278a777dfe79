-- The entry at the projected rank is the height.
use Rattle.std.proofs.Common.{◌<◌, sym, ap, ◌∙◌, arith}
use Rattle.sas.specs.Ranks.{states}
use Rattle.tasks.specs.View.{model_of}
use Rattle.tables.specs.Entries.{entry, height_at}
use Rattle.tables.specs.Lawful.{inside}
use Rattle.tables.proofs.Holding.{table_few, table_long, table_rank}
use Rattle.tables.proofs.table.estimates.TableEstimator.height.Goals as goal

pub offset_bounds-self-of : goal.offset_bounds-self-of
offset_bounds-self-of c = omega (arith, c.of.ensures.low, table_few c.args.self.now)

pub bounds-self-of : goal.bounds-self-of
bounds-self-of c = omega (arith, c.of.ensures.low, table_long c.args.self.now)

pub returns : goal.returns
returns c =
    let t = c.args.self.now in
    let below : c.args.rank < states (model_of t.own) = omega (arith, c.if-rank-state_count.false, c.state_count.ensures.count) in
    c.height_of.ensures ∙ sym (inside t c.args.rank below ∙ ap (λ n. height_at (entry t.entries.now n)) (sym (c.of.ensures.value ∙ table_rank t c.args.rank)))
