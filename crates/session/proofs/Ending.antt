-- How a step begins, and how it is done.
use Rattle.std.proofs.Common.{◌≡◌, ℕ, ◌+◌, Bool, true, false, cond, List, Some, None, Ok, Err, Option, Result, sym, refl, ap, ◌∙◌, subst}
use Rattle.std.proofs.lemmas.Bool.{false≢true, eqb-true, cond-true, true_from_ne_false}
use Rattle.std.proofs.lemmas.Grind.{not_there}
use Rattle.sas.specs.Model.{Model, Rules}
use Rattle.sas.specs.States.{Applies, State, Step, operator, outcome}
use Rattle.sas.proofs.Steps.{step_is, step_laws}
use Rattle.session.specs.Rows.{row_at}
use Rattle.session.specs.Sound.{Ready}
use Rattle.session.specs.Bench.{Bench, with_state, with_step, with_wear}
use Rattle.session.specs.Changes.{finished, held, left, under}
use Rattle.session.specs.declared.session.refusal.Refusal.{Refusal}
use Rattle.session.specs.declared.session.refusal.Refusal.TheVariants.{NoStep}

under_is : (step : Option ℕ) (o : ℕ) → under step o ≡ true → step ≡ Some o
under_is None o h = absurd (false≢true h)
under_is (Some p) o h = ap Some (eqb-true p o h)

-- the operator of the step under way makes its step
step_made : (m : Model) (s u t : List ℕ) (step : Option ℕ) (o : ℕ) (r : Bool) → ∥ Ready step m s ∥₁ → under step o ≡ true → u ≡ s → (r ≡ true → Step m o u t) → (r ≡ false → Applies m o u → ⊥) → Step m o s t
step_made m s u t step o r ready at same moved refused =
    subst (λ x. Step m o x t) same (moved (true_from_ne_false r (λ e. not_there ready (λ h. refused e (subst (Applies m o) (sym same) (h o (under_is step o at)))))))

finished_is : (o : ℕ) (b : Bench) (t : List ℕ) (w : ℕ) → under b.step o ≡ true → t ≡ outcome (operator b.model o).effects b.state → w ≡ held (b.wear + (row_at b.rows o).cost) → finished o b ≡ Ok (with_wear (with_state (with_step b None) t) w)
finished_is o b t w at state wear =
    let to : List ℕ → ℕ → Result Bench Refusal = λ s n. Ok (with_wear (with_state (with_step b None) s) n) in
    let sum = held (b.wear + (row_at b.rows o).cost) in
    let there = outcome (operator b.model o).effects b.state in
    cond-true (under b.step o) (to there sum) (Err NoStep) at ∙ ap (λ s. to s sum) (sym state) ∙ ap (to t) (sym wear)

-- the step of o was under way, and was left
left_by : (u : Bool) (b c : Bench) → Ok c ≡ cond u (Ok (with_step b None)) (Err NoStep) → (u ≡ true) × (c ≡ with_step b None)
left_by true b c h = (refl, cc)
left_by false b c h = let z : ⊥ = cc in absurd z

pub left_is : (o : ℕ) (b c : Bench) → Ok c ≡ left o b → (under b.step o ≡ true) × (c ≡ with_step b None)
left_is o b c h = left_by (under b.step o) b c h

-- the effects put in once it was left are those of the step
pub step_done : (o : ℕ) (b c : Bench) (u t v : List ℕ) (r : Bool) → ∥ Ready b.step b.model b.state ∥₁ → Ok c ≡ left o b → u ≡ c.state → v ≡ t → (r ≡ true → Step c.model o u t) → (r ≡ false → Applies c.model o u → ⊥) → Step b.model o b.state v
step_done o b c u t v r ready h same whole moved refused =
    let l = left_is o b c h in
    subst (Step b.model o b.state) (sym whole)
    (step_made b.model b.state u t b.step o r ready l.0 (same ∙ ap (λ x. x.state) l.1) (λ e. subst (λ (x : Bench). Step x.model o u t) l.1 (moved e)) (λ e. subst (λ (x : Bench). Applies x.model o u → ⊥) l.1 (refused e)))

pub state_done : (o : ℕ) (b c : Bench) (t : List ℕ) → Rules b.model → Ok c ≡ left o b → Step b.model o b.state t → State c.model.sizes t
state_done o b c t rules h d =
    subst (λ (x : Bench). State x.model.sizes t) (sym (left_is o b c h).1) ((step_laws b.model rules).to_state o b.state t d)

pub bench_done : (o : ℕ) (b c : Bench) (t : List ℕ) (w : ℕ) → Ok c ≡ left o b → Step b.model o b.state t → w ≡ held (c.wear + (row_at c.rows o).cost) → Ok (with_wear (with_state c t) w) ≡ finished o b
bench_done o b c t w h d wear =
    let l = left_is o b c h in
    ap (λ x. Ok (with_wear (with_state x t) w)) l.1 ∙ sym (finished_is o b t w l.0 ((step_is b.model o b.state t).0 d).1 (wear ∙ ap (λ (x : Bench). held (x.wear + (row_at x.rows o).cost)) l.1))
