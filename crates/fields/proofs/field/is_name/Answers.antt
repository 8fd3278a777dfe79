-- A name has 1 to 16 bytes, each of 33 to 126.
use Rattle.std.proofs.Common.{◌≡◌, ◌&&◌, length, true, sym, ap, ◌∙◌, rules, tests, arith}
use Rattle.std.specs.List.{list_all}
use Rattle.std.proofs.lemmas.Iterator.{YieldsList-from_slice}
use Rattle.std.proofs.lemmas.Iterator.Search.{all_from_yields_List}
use Rattle.fields.specs.Text.{between}
use Rattle.fields.proofs.field.is_name.Goals as goal

pub returns-then-contains : goal.returns-then-contains
returns-then-contains c =
    let each : c.all.result ≡ list_all (between 33 126) c.args.text.now = all_from_yields_List (between 33 126) _ _ c.all.result c.all.ensures.ran (YieldsList-from_slice c.args.text.now cc) (λ x b q k. search (rules, tests)) in
    let a = c.if-contains in
    let b = c.new.ensures in
    let few : between 1 16 (length c.args.text.now) ≡ true = grind (arith, c.if-contains.ensures.value, c.new.ensures) in
    each ∙ sym (ap (λ t. t && list_all (between 33 126) c.args.text.now) few)
