use Rattle.std.proofs.Common.{rules, map, vec_items}
use Rattle.std.proofs.iter.runs.Made.{chains}
use Rattle.drafts.specs.View.{placed}
use Rattle.tasks.proofs.Collecting.{map_collected}
use Rattle.tasks.proofs.card.Card.costs.Goals as goal

pub returns : goal.returns
returns c =
    let os = vec_items c.args.self.now.draft.operators in
    map_collected (λ o. o.cost) (λ o. o.oper) (map placed os) c.collect.result (map_collected (λ o. o.oper.cost) placed os c.collect.result (search (rules, chains)))
