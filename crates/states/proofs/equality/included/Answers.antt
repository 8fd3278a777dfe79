-- The tests of each element decide whether all are there.
use Rattle.std.proofs.Common.{rules}
use Rattle.std.specs.List.{list_any}
use Rattle.std.proofs.lemmas.Iterator.{YieldsList-from_slice}
use Rattle.std.proofs.lemmas.Iterator.Search.{all_from_yields_List}
use borrow.Author.Tests.{tests}
use Rattle.states.proofs.Sets.{included_is}
use Rattle.states.proofs.equality.included.Goals as goal

pub returns : goal.returns
returns g c exact = included_is g.T.PartialEq.eq exact c.args.a.now c.args.b.now c.all.result (all_from_yields_List (λ x. list_any (λ y. g.T.PartialEq.eq y x) c.args.b.now) _ _ _ c.all.ensures.ran (YieldsList-from_slice c.args.a.now cc) (λ x b q k. search (rules, tests)))
