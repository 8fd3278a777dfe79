-- The first operator without an effect is at fault.
use Rattle.std.proofs.Common.{Err, sym, ap, ◌∙◌, rules, tests}
use Rattle.std.specs.Option.{option_map}
use Rattle.std.proofs.lemmas.Iterator.{YieldsList-from_slice}
use Rattle.std.proofs.lemmas.Iterator.Search.{find_from_yields_List}
use Rattle.cards.specs.declared.CardFault.TheVariants.{NoEffect}
use Rattle.drafts.proofs.Counted.{bare, fault, fault_found}
use Rattle.drafts.proofs.whole.check_effects.Goals as goal

pub returns-in-Some : goal.returns-in-Some
returns-in-Some c =
    let found = find_from_yields_List bare _ _ c.find.result c.find.ensures.ran (YieldsList-from_slice c.args.operators.now cc) (λ x b q k. search (rules, tests)) in
    ap (λ n. Err (NoEffect n)) c.line.ensures ∙ ap fault (ap (option_map (λ o. o.now)) (sym c.in-Some.is) ∙ found) ∙ fault_found c.args.operators.now

pub returns-in-None : goal.returns-in-None
returns-in-None c =
    let found = find_from_yields_List bare _ _ c.find.result c.find.ensures.ran (YieldsList-from_slice c.args.operators.now cc) (λ x b q k. search (rules, tests)) in
    ap fault (ap (option_map (λ o. o.now)) (sym c.in-None.is) ∙ found) ∙ fault_found c.args.operators.now
