-- One pattern more.
use Rattle.std.proofs.Common.{ℕ, map, Ok, Err, vec_items, sym, refl, ap, ◌∙◌}
use Rattle.std.specs.declared.alloc.Global.{Global}
use Rattle.std.proofs.lemmas.List.{map_push}
use Rattle.std.proofs.lemmas.Result.{err_from_is_err_and}
use Rattle.fields.specs.Cursor.{left}
use Rattle.drafts.specs.View.{said, plain_var}
use Rattle.drafts.proofs.Lists.{count}
use Rattle.drafts.proofs.Lasts.{pattern_on, pattern_distinct}
use Rattle.drafts.proofs.Told.{told_err}
use Rattle.drafts.proofs.parts.Draft.add_pattern.Goals as goal

pub returns-in_err-vs : goal.returns-in_err-vs
returns-in_err-vs c =
    let p = err_from_is_err_and c.from_residual-in_err-vs.result c.from_residual-in_err-vs.ensures.1 in
    rw (p.1, p.2) (record { same = refl; told = told_err (Unit {0}) (vec_items {X = ℕ} {Z = Global}) _ (said c.args.self.now) _ _ (λ d q. pattern_on c.args.line (said c.args.self.now) (left c.args.variables) c.len.result _ (Err d) (c.len.ensures ∙ count plain_var c.args.self.now.variables) c.in_ok-may_add_pattern.ensures q) c.in_err-vs.ensures })

pub returns-in_err-distinct : goal.returns-in_err-distinct
returns-in_err-distinct c =
    let p = err_from_is_err_and c.from_residual-in_err-distinct.result c.from_residual-in_err-distinct.ensures.1 in
    rw (p.1, p.2) (record { same = refl; told = pattern_on c.args.line (said c.args.self.now) (left c.args.variables) c.len.result _ (Ok (vec_items c.in_ok-vs.vs)) (c.len.ensures ∙ count plain_var c.args.self.now.variables) c.in_ok-may_add_pattern.ensures c.in_ok-vs.ensures ∙ pattern_distinct c.args.line (said c.args.self.now) (vec_items c.in_ok-vs.vs) c.as_slice.result.now _ c.as_slice.ensures.value c.in_err-distinct.ensures })

pub returns : goal.returns
returns c =
    let more = ap (map vec_items) c.in_ok-push.ensures.items ∙ map_push vec_items (vec_items c.args.self.now.patterns) _ in
    record { same = refl; told = pattern_on c.args.line (said c.args.self.now) (left c.args.variables) c.len.result _ (Ok (vec_items c.in_ok-vs.vs)) (c.len.ensures ∙ count plain_var c.args.self.now.variables) c.in_ok-may_add_pattern.ensures c.in_ok-vs.ensures ∙ pattern_distinct c.args.line (said c.args.self.now) (vec_items c.in_ok-vs.vs) c.as_slice.result.now _ c.as_slice.ensures.value c.in_ok-distinct.ensures ∙ ap (λ ts. Ok (record { vars = (said c.args.self.now).vars; opers = (said c.args.self.now).opers; patterns = ts })) (sym more) }
