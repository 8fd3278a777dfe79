use Rattle.std.proofs.Common.{vec_items, rules, tests}
use Rattle.std.proofs.lemmas.Iterator.{items_from_collect, YieldsList-from_slice}
use Rattle.std.proofs.lemmas.Iterator.Consumers.{YieldsList-from_filter_map, YieldsList-from_enumerate}
use Rattle.tasks.proofs.Collecting.{goal_collected, aimed}
use Rattle.tasks.proofs.card.gathers.goal_of.Goals as goal

pub returns : goal.returns
returns c = goal_collected (vec_items c.args.draft.now.variables) _ (items_from_collect _ c.collect.ensures.ran (YieldsList-from_filter_map _ aimed (YieldsList-from_enumerate (YieldsList-from_slice (vec_items c.args.draft.now.variables) cc) cc) c.filter_map.ensures.closure (λ x r q k. search (rules, tests))))
