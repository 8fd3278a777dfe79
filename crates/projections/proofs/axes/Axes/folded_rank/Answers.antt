-- The digits of the whole rank come to their places, and make up less than all states.
use Rattle.std.proofs.Common.{◌^◌, ◌∙◌, rules, arith}
use Rattle.std.proofs.lemmas.Iterator.{YieldsList-from_map, YieldsList-from_slice}
use Rattle.std.proofs.lemmas.Iterator.Consumers.{fits_by_from_yields_list, sum_by_from_yields_List}
use Rattle.projections.proofs.Digits.{part, parts_are, parts_low}
use Rattle.projections.proofs.axes.Axes.folded_rank.Goals as goal

pub sum-requires-clause-fits : goal.sum-requires-clause-fits
sum-requires-clause-fits c =
    let axes = c.args.self.now.list.items in
    let scaled = c.args.self.now.scaled in
    fits_by_from_yields_list (part axes scaled c.args.rank) axes c.map.result (2 ^ 64) (YieldsList-from_map _ (part axes scaled c.args.rank) (YieldsList-from_slice axes cc) c.map.ensures.closure (λ x r q k. search rules)) (omega (arith, parts_low axes scaled c.args.rank, c.args.self.now.few))

pub returns : goal.returns
returns c =
    let axes = c.args.self.now.list.items in
    let scaled = c.args.self.now.scaled in
    let whole = sum_by_from_yields_List (part axes scaled c.args.rank) axes c.map.result c.sum.result c.sum.ensures.ran (YieldsList-from_map _ (part axes scaled c.args.rank) (YieldsList-from_slice axes cc) c.map.ensures.closure (λ x r q k. search rules)) in
    record { value = whole ∙ parts_are axes scaled c.args.rank; low = omega (arith, whole, parts_low axes scaled c.args.rank) }
