-- The digits that are asked for decide, and the effects' digits are written.
use Rattle.std.proofs.Common.{◌≡◌, ℕ, ◌<◌, Decides, MatchOption, sym, ◌∙◌, subst}
use Rattle.std.specs.List.{AllByRecursion}
use Rattle.std.proofs.lemmas.Bool.{false≢true}
use Rattle.sas.specs.Ranks as Ranks
use Rattle.projections.specs.Parts.{digit}
use Rattle.projections.specs.Projection.{Edge}
use Rattle.projections.specs.View.{view_of}
use Rattle.projections.proofs.Edges.{edge_inside, no_edge, remains_number, some_edge}
use Rattle.projections.proofs.Held.{asked_values, effect_values, held_shaped, inside}
use Rattle.projections.proofs.Origins.{Writes}
use Rattle.projections.proofs.projection.Projection.successor.Goals as goal

pub returns-in_err-one : goal.returns-in_err-one
returns-in_err-one c =
    let p = view_of c.args.self.now in
    subst (λ r. MatchOption r ((l : ℕ) → Edge p c.args.operator c.args.rank l → ⊥) (λ l. Edge p c.args.operator c.args.rank l × (l < Ranks.states p))) (sym c.from_residual.ensures) (λ l e. c.in_err-one.ensures e.0 (edge_inside p (held_shaped c.args.self.now) c.args.operator c.args.rank l e).0)

pub returns-then-not-all_stand : goal.returns-then-not-all_stand
returns-then-not-all_stand c =
    let p = view_of c.args.self.now in
    let x = c.in_ok-one.one.now in
    let o = c.args.operator in
    let r = c.in_ok-one.ensures in
    let d = subst (λ fs. Decides c.all_stand.result (AllByRecursion (λ f. digit p.sizes f.variable c.args.rank ≡ f.value) fs)) c.deref.ensures.value c.all_stand.ensures in
    no_edge p (held_shaped c.args.self.now) o x.asked.items x.effects.items r.0 (remains_number p o r.1) c.args.rank r.2 (λ h. false≢true (sym c.if-not-all_stand.true ∙ d.1 h))

pub all_stand-requires : goal.all_stand-requires
all_stand-requires c =
    let p = c.args.self.now in
    let r = c.in_ok-one.ensures in
    record { inside = inside p c.deref.result.now (asked_values p c.args.operator c.in_ok-one.one.now r.0 (remains_number (view_of p) c.args.operator r.1) c.deref.result.now c.deref.ensures.value) }

pub written-requires : goal.written-requires
unfolding Ranks.states
written-requires c =
    let p = c.args.self.now in
    let r = c.in_ok-one.ensures in
    record {
      valued = effect_values p c.args.operator c.in_ok-one.one.now r.0 (remains_number (view_of p) c.args.operator r.1) c.deref-2.result.now c.deref-2.ensures.value;
      below = r.2;
    }

pub returns : goal.returns
returns c =
    let p = view_of c.args.self.now in
    let h = held_shaped c.args.self.now in
    let x = c.in_ok-one.one.now in
    let o = c.args.operator in
    let k = c.args.rank in
    let r = c.in_ok-one.ensures in
    let d = subst (λ fs. Decides c.all_stand.result (AllByRecursion (λ f. digit p.sizes f.variable k ≡ f.value) fs)) c.deref.ensures.value c.all_stand.ensures in
    let made = subst (Writes k c.written.result p.sizes) c.deref-2.ensures.value c.written.ensures.value in
    let e = some_edge p h o x.asked.items x.effects.items r.0 (remains_number p o r.1) k c.written.result r.2 r.1 (d.0 c.if-not-all_stand.false) made in
    (e, (edge_inside p h o k c.written.result e).1)
