-- A numeral has digits only, with no 0 in front.
use Rattle.std.proofs.Common.{◌≡◌, rules, tests}
use Rattle.std.specs.List.{list_all}
use Rattle.std.proofs.lemmas.Iterator.{YieldsList-from_slice}
use Rattle.std.proofs.lemmas.Iterator.Search.{all_from_yields_List}
use Rattle.fields.specs.Text.{between}
use Rattle.fields.proofs.Numerals.{numeral_all}
use Rattle.fields.proofs.field.is_numeral.Goals as goal

pub returns : goal.returns
returns c =
    let each : c.all.result ≡ list_all (between 48 57) c.args.text.now = all_from_yields_List (between 48 57) _ _ c.all.result c.all.ensures.ran (YieldsList-from_slice c.args.text.now cc) (λ x b q k. search (rules, tests)) in
    search (rules, numeral_all, each)
