-- The sizes are multiplied, and every product of some stays below that of all, which the rules bound.
use Rattle.std.proofs.Common.{◌<◌, map, rules, sym, ap, ◌∙◌, subst, arith}
use mathlib.Core.List.{map-id}
use Rattle.std.specs.List.{AllByRecursion}
use Rattle.std.proofs.lemmas.Iterator.{YieldsList-from_map, YieldsList-from_slice}
use Rattle.sas.specs.Model.{product}
use Rattle.sas.specs.Ranks.{states}
use Rattle.sas.proofs.Products.{positive}
use Rattle.tasks.specs.View.{model_of}
use Rattle.sas.proofs.Chains.{product_fits, product_is}
use Rattle.states.proofs.counts.state_count.Goals as goal

pub product-requires-clause-fits : goal.product-requires-clause-fits
product-requires-clause-fits c =
    let sizes = c.sizes.result.now in
    let is = map-id sizes ∙ c.sizes.ensures.value in
    let pos = subst (AllByRecursion (λ z. 0 < z)) (sym is) (positive (model_of c.args.task.now) c.sizes.ensures.rules) in
    product_fits c.map.result (map (λ z. z) sizes) (YieldsList-from_map _ (λ z. z) (YieldsList-from_slice sizes cc) c.map.ensures.closure (λ x r q k. search rules)) pos (omega (arith, ap product is, c.sizes.ensures.rules.few_states))

pub returns : goal.returns
unfolding states
returns c =
    let sizes = c.sizes.result.now in
    let value = product_is c.map.result (map (λ z. z) sizes) (YieldsList-from_map _ (λ z. z) (YieldsList-from_slice sizes cc) c.map.ensures.closure (λ x r q k. search rules)) c.product.result c.product.ensures.ran ∙ ap product (map-id sizes ∙ c.sizes.ensures.value) in
    record { count = value; few = omega (arith, value, c.sizes.ensures.rules.few_states) }
