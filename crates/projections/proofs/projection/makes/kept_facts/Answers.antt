-- The facts of kept variables are collected, each put anew.
use Rattle.std.proofs.Common.{◌≡◌, IfOk, subst, rules, tests}
use Rattle.std.proofs.lemmas.Iterator.{YieldsList-from_map, YieldsList-from_slice, items_from_collect}
use Rattle.std.proofs.lemmas.Iterator.Consumers.{YieldsList-at, YieldsList-from_filter}
use Rattle.projections.specs.Projection.{among, place}
use Rattle.projections.proofs.Kept.{fact_of}
use Rattle.projections.proofs.Making.{kept_is}
use Rattle.projections.proofs.projection.makes.kept_facts.Goals as goal

pub returns : goal.returns
returns c =
    let keep = among c.args.pattern.now in
    let facts = c.args.facts.now in
    subst (λ xs. IfOk c.collect.result (λ v. v.items ≡ xs)) (kept_is keep facts)
    (items_from_collect _ c.collect.ensures.ran (YieldsList-from_map _ (λ f. fact_of (place keep f.variable) f) (YieldsList-at c.map.ensures.source (YieldsList-from_filter _ (λ f. keep f.variable) (YieldsList-from_slice facts cc) c.filter.ensures.closure (λ x r q k. search (rules, tests)))) c.map.ensures.closure (λ x r q k. search rules)))
