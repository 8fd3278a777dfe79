-- The tests of each pair of operators decide.
use Rattle.std.proofs.Common.{rules, arith}
use Rattle.std.proofs.lemmas.List.{length-map}
use Rattle.std.proofs.lemmas.Iterator.{YieldsList-from_slice, YieldsList-from_zip}
use Rattle.sas.specs.Same.{SameAction}
use Rattle.sas.specs.States.{idle}
use Rattle.tasks.specs.Parts.{action}
use Rattle.states.proofs.Each.{all_decides, at_each_place, from_each_place}
use Rattle.states.proofs.equality.same_operators.Goals as goal

pub returns-then-a-b : goal.returns-then-a-b
returns-then-a-b c =
    let a = c.args.a.now in
    let b = c.args.b.now in
    let m = length-map a action in
    let n = length-map b action in
    let each = all_decides (λ p. SameAction (action p.0) (action p.1)) c.all.new.self _ c.all.result c.all.ensures.ran (YieldsList-from_zip (YieldsList-from_slice a cc) (YieldsList-from_slice b cc)) (λ x b q k. search rules) in (
      λ e. (omega arith, λ o within. at_each_place action idle SameAction a b (omega arith) (each.0 e) o (omega arith)),
      λ h. each.1 (from_each_place action idle SameAction a b (λ o within. h.1 o (omega arith))),
    )
