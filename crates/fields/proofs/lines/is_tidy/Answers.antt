-- A tidy line has at most 200 bytes, each of them tidy.
use Rattle.std.proofs.Common.{◌≡◌, ◌&&◌, sym, ap, ◌∙◌, rules, tests}
use Rattle.std.specs.List.{list_all}
use Rattle.std.proofs.lemmas.Bool.{le-leb}
use Rattle.std.proofs.lemmas.Iterator.{YieldsList-from_slice}
use Rattle.std.proofs.lemmas.Iterator.Search.{all_from_yields_List}
use Rattle.fields.specs.Text.{tidy_byte}
use Rattle.fields.proofs.lines.is_tidy.Goals as goal

pub returns-then-text-le200 : goal.returns-then-text-le200
returns-then-text-le200 c =
    let each : c.all.result ≡ list_all tidy_byte c.args.text.now = all_from_yields_List tidy_byte _ _ c.all.result c.all.ensures.ran (YieldsList-from_slice c.args.text.now cc) (λ x b q k. search (rules, tests)) in
    each ∙ sym (ap (λ t. t && list_all tidy_byte c.args.text.now) (le-leb _ _ c.if-text-le200.true))
