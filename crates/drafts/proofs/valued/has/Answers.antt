-- A variable is looked for among those of some parts.
use Rattle.std.proofs.Common.{eqb, ◌∙◌, rules, tests}
use Rattle.std.proofs.lemmas.Iterator.{YieldsList-from_slice}
use Rattle.std.proofs.lemmas.Iterator.Search.{any_from_yields_List}
use Rattle.drafts.proofs.Lists.{any_map}
use Rattle.drafts.proofs.valued.has.Goals as goal

pub returns : goal.returns
returns g c =
    any_from_yields_List (λ p. eqb (g.T.Valued.of p) c.args.v) _ _ c.any.result c.any.ensures.ran (YieldsList-from_slice c.args.parts.now cc) (λ x b q k. search (rules, tests)) ∙ any_map g.T.Valued.of _ c.args.parts.now
