-- The effects that are not asked for are collected, each at 0.
use Rattle.std.proofs.Common.{◌≡◌, ◌==◌, IfOk, not, subst, rules, tests}
use Rattle.std.specs.List.{list_any}
use Rattle.std.proofs.lemmas.Iterator.{YieldsList-from_map, YieldsList-from_slice, items_from_collect}
use Rattle.std.proofs.lemmas.Iterator.Consumers.{YieldsList-at, YieldsList-from_filter}
use Rattle.projections.specs.Asked.{at_zero}
use Rattle.projections.proofs.Making.{unasked_is}
use Rattle.projections.proofs.projection.makes.free_of.Goals as goal

pub returns : goal.returns
returns c =
    let asked = c.args.asked.now in
    let effects = c.args.effects.now in
    subst (λ xs. IfOk c.collect.result (λ v. v.items ≡ xs)) (unasked_is asked effects)
    (items_from_collect _ c.collect.ensures.ran (YieldsList-from_map _ (λ f. at_zero f.variable) (YieldsList-at c.map.ensures.source (YieldsList-from_filter _ (λ f. not (list_any (λ g. g.variable == f.variable) asked)) (YieldsList-from_slice effects cc) c.filter.ensures.closure (λ x r q k. search (rules, tests)))) c.map.ensures.closure (λ x r q k. search rules)))
