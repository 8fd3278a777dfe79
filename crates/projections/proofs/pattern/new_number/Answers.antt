-- The variables of the pattern before this one are counted.
use Rattle.std.proofs.Common.{◌∙◌, rules, tests, arith}
use Rattle.std.proofs.lemmas.Iterator.{YieldsList-from_range}
use Rattle.std.proofs.lemmas.Iterator.Consumers.{YieldsList-from_filter, count_from_yields_List}
use Rattle.projections.specs.Projection.{among}
use Rattle.projections.proofs.Only.{place_is}
use Rattle.projections.proofs.pattern.new_number.Goals as goal

pub returns-clause-value : goal.returns-clause-value
returns-clause-value c =
    let keep = among c.args.pattern.now in
    count_from_yields_List c.filter.result c.count.result c.count.ensures.ran (YieldsList-from_filter _ keep (YieldsList-from_range 0 c.args.variable c.args.variable (cc) (omega arith)) c.filter.ensures.closure (λ x r q k. search (rules, tests))) ∙ place_is keep c.args.variable
