-- The effects lead back to the rank where it is written with what is asked for, or no edge leads there; the free variables are written to 0.
use Rattle.std.proofs.Common.{ℕ, MatchOption, sym, ◌∙◌, subst}
use Rattle.sas.specs.Ranks as Ranks
use Rattle.projections.specs.Origins.{Origin}
use Rattle.projections.specs.Projection.{Edge}
use Rattle.projections.specs.View.{view_of}
use Rattle.projections.proofs.Edges.{edge_inside, remains_number}
use Rattle.projections.proofs.Held.{asked_values, effect_values, free_values, held_shaped}
use Rattle.projections.proofs.Origins.{Writes, no_origin, some_origin}
use Rattle.projections.proofs.projection.Projection.origin.Goals as goal

pub returns-in_err-one : goal.returns-in_err-one
returns-in_err-one c =
    let p = view_of c.args.self.now in
    subst (λ r. MatchOption r ((k : ℕ) → Edge p c.args.operator k c.args.rank → ⊥) (Origin p c.args.operator c.args.rank)) (sym c.from_residual.ensures) (λ k e. c.in_err-one.ensures e.0 (edge_inside p (held_shaped c.args.self.now) c.args.operator k c.args.rank e).1)

pub written-asked-requires : goal.written-asked-requires
unfolding Ranks.states
written-asked-requires c =
    let p = c.args.self.now in
    let r = c.in_ok-one.ensures in
    record {
      valued = asked_values p c.args.operator c.in_ok-one.one.now r.0 (remains_number (view_of p) c.args.operator r.1) c.deref.result.now c.deref.ensures.value;
      below = r.2;
    }

pub written-requires-clause-valued : goal.written-requires-clause-valued
written-requires-clause-valued c =
    let p = c.args.self.now in
    let r = c.in_ok-one.ensures in
    effect_values p c.args.operator c.in_ok-one.one.now r.0 (remains_number (view_of p) c.args.operator r.1) c.deref-2.result.now c.deref-2.ensures.value

pub written-requires-2-clause-valued : goal.written-requires-2-clause-valued
written-requires-2-clause-valued c =
    let p = c.args.self.now in
    let r = c.in_ok-one.ensures in
    free_values p c.args.operator c.in_ok-one.one.now r.0 (remains_number (view_of p) c.args.operator r.1) c.deref-3.result.now c.deref-3.ensures.value

pub returns-then-not-leads_back : goal.returns-then-not-leads_back
returns-then-not-leads_back c =
    let p = view_of c.args.self.now in
    let x = c.in_ok-one.one.now in
    let o = c.args.operator in
    let r = c.in_ok-one.ensures in
    let a = c.written-asked.result in
    let w = c.written.result in
    no_origin p (held_shaped c.args.self.now) o x.asked.items x.effects.items r.0 (remains_number p o r.1) c.args.rank r.2 a w
    (subst (Writes c.args.rank a p.sizes) c.deref.ensures.value c.written-asked.ensures.value)
    (subst (Writes a w p.sizes) c.deref-2.ensures.value c.written.ensures.value)
    c.if-not-leads_back.true

pub returns : goal.returns
returns c =
    let p = view_of c.args.self.now in
    let x = c.in_ok-one.one.now in
    let o = c.args.operator in
    let r = c.in_ok-one.ensures in
    let a = c.written-asked.result in
    let w = c.written.result in
    let b = c.written-2.result in
    some_origin p (held_shaped c.args.self.now) o x.asked.items x.effects.items r.0 (remains_number p o r.1) c.args.rank r.2 a w
    (subst (Writes c.args.rank a p.sizes) c.deref.ensures.value c.written-asked.ensures.value)
    (subst (Writes a w p.sizes) c.deref-2.ensures.value c.written.ensures.value)
    b
    (subst (Writes a b p.sizes) (c.deref-3.ensures.value ∙ x.frees) c.written-2.ensures.value)
    c.if-not-leads_back.false
    r.1
