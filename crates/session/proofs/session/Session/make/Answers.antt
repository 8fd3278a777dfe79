-- One call more.
use Rattle.std.proofs.Common.{◌≡◌, Ok, Err, Result, OnErr, sym, refl, subst, arith}
use Rattle.std.proofs.lemmas.List.{drop_more, drop_all}
use Rattle.session.specs.Answers.{leads}
use Rattle.session.specs.Bench.{Bench, bench}
use Rattle.session.specs.Calls.{Replayed}
use Rattle.session.specs.Changes.{kept}
use Rattle.session.specs.declared.session.refusal.Refusal.{Refusal}
use Rattle.session.proofs.session.Session.make.Goals as goal

kept_leads : (b c : Bench) (r : Result (Unit {0}) Refusal) → OnErr r (c ≡ b) → c ≡ kept b (leads r c)
kept_leads b c (Ok x) h = refl
kept_leads b c (Err e) h = h

pub loop-call-preserved : goal.loop-call-preserved
loop-call-preserved c = λ d h.
    let b = bench c.loop-call.self in
    let after = kept_leads b _ c.call.result c.call.ensures.unchanged in
    c.loop-call.invariant d (subst (λ cs. Replayed b cs d) (sym (drop_more c.args.calls.now c.loop-call.call-index _ c.loop-call-test.true)) (_, (_, c.call.ensures.answer, after), h))

pub returns : goal.returns
returns c =
    let b = bench c.loop-call.self in
    c.loop-call.invariant b (subst (λ cs. Replayed b cs b) (sym (drop_all c.loop-call.call-index c.args.calls.now (omega arith))) refl)
