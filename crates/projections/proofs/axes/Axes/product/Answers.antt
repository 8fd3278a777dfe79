-- The sizes are multiplied, and every product of some stays below that of all.
use Rattle.std.proofs.Common.{rules, arith}
use Rattle.std.proofs.lemmas.Iterator.{YieldsList-from_map, YieldsList-from_slice}
use Rattle.projections.specs.Parts.{axis_sizes}
use Rattle.sas.proofs.Chains.{product_fits, product_is}
use Rattle.projections.proofs.Digits.{axes_positive}
use Rattle.projections.proofs.axes.Axes.product.Goals as goal

pub product-requires-clause-fits : goal.product-requires-clause-fits
product-requires-clause-fits c =
    let axes = c.args.self.now.list.items in
    product_fits c.map.result (axis_sizes axes) (YieldsList-from_map _ (λ a. a.size) (YieldsList-from_slice axes cc) c.map.ensures.closure (λ x r q k. search rules)) (axes_positive axes) (omega (arith, c.args.self.now.few))

pub returns : goal.returns
returns c =
    let axes = c.args.self.now.list.items in
    product_is c.map.result (axis_sizes axes) (YieldsList-from_map _ (λ a. a.size) (YieldsList-from_slice axes cc) c.map.ensures.closure (λ x r q k. search rules)) c.product.result c.product.ensures.ran
