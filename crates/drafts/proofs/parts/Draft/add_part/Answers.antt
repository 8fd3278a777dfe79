-- The last operator has one part more.
use Rattle.std.proofs.Common.{◌≡◌, [], ◌∷◌, ◌++◌, map, Ok, Err, vec_items, sym, refl, ap, ◌∙◌, arith}
use Rattle.std.proofs.lemmas.List.{map_push}
use Rattle.std.proofs.lemmas.Result.{err_from_is_err_and}
use Rattle.cards.specs.Reading.{with_opers}
use Rattle.drafts.specs.Parts.{add_to}
use Rattle.drafts.specs.View.{placed, said}
use Rattle.drafts.proofs.Lasts.{part_on}
use Rattle.drafts.proofs.Told.{told_err}
use Rattle.drafts.proofs.parts.Draft.add_part.Goals as goal

pub returns-in_err-add_to : goal.returns-in_err-add_to
returns-in_err-add_to g c =
    let p = err_from_is_err_and c.from_residual-in_err-add_to.result c.from_residual-in_err-add_to.ensures.1 in
    let last : vec_items c.args.self.now.operators ≡ vec_items c.pop.new.self ++ c.in_ok-o.o ∷ [] = grind arith in
    rw (p.1, p.2) (record { same = refl; told = told_err (Unit {0}) {U = Unit {0}} (λ _. placed c.add_to.new.operator) _ (said c.args.self.now) _ _ (λ d q. part_on (add_to g.T.Valued.of g.T.Valued.make g.T.Part.parts g.T.Part.with_parts c.args.line (said c.args.self.now).vars c.args.texts.variable.now c.args.texts.value.now) c.args.line c.args.self.now (vec_items c.pop.new.self) c.in_ok-o.o _ (Err d) last c.in_ok-may_add_part.ensures q) c.in_err-add_to.ensures })

pub returns : goal.returns
returns g c =
    let last : vec_items c.args.self.now.operators ≡ vec_items c.pop.new.self ++ c.in_ok-o.o ∷ [] = grind arith in
    let more = ap (map placed) c.in_ok-push.ensures.items ∙ map_push placed (vec_items c.pop.new.self) _ in
    record { same = refl; told = part_on (add_to g.T.Valued.of g.T.Valued.make g.T.Part.parts g.T.Part.with_parts c.args.line (said c.args.self.now).vars c.args.texts.variable.now c.args.texts.value.now) c.args.line c.args.self.now (vec_items c.pop.new.self) c.in_ok-o.o _ (Ok (placed c.add_to.new.operator)) last c.in_ok-may_add_part.ensures c.in_ok-add_to.ensures ∙ ap (λ os. Ok (with_opers (said c.args.self.now) os)) (sym more) }
