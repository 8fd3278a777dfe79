-- What is left of an operator and of a task, from their parts.
use Rattle.std.proofs.Common.{◌≡◌, ℕ, ◌<◌, Bool, true, false, cond, ◌||◌, ◌==◌, List, [], ◌∷◌, map, filter, not, length, get_or, sym, refl, ap, ◌∙◌, Result, Vec, vec_items, Ok, Err, IfOk, Global}
use Rattle.std.specs.List.{list_any}
use Rattle.std.proofs.lemmas.Simd.{map-map}
use Rattle.sas.specs.Model.{Action, Model}
use Rattle.sas.specs.declared.Fact.{Fact}
use Rattle.sas.specs.declared.Precondition.{Precondition}
use Rattle.tasks.specs.Parts as Tasks
use Rattle.tasks.specs.declared.task.Operator.{Operator}
use Rattle.tasks.proofs.Collecting.{each_made}
use Rattle.projections.specs.Asked.{as_fact, as_precondition, at_zero}
use Rattle.projections.specs.Origins.{asks, unasked}
use Rattle.projections.specs.Parts.{action}
use Rattle.projections.specs.Projection.{kept_facts, kept_preconditions, only, place, projected, projected_action}
use Rattle.projections.specs.declared.moves.Move.{Move}
use Rattle.projections.proofs.Kept.{fact_of, kept_asked}

-- the kept facts are those of the kept variables, each put anew
pub kept_is : (keep : ℕ → Bool) (fs : List Fact) → map (λ f. fact_of (place keep f.variable) f) (filter (λ f. keep f.variable) fs) ≡ kept_facts keep fs
kept_is keep [] = refl
kept_is keep (f ∷ fs) = on (keep f.variable) (kept_is keep fs)
  where
    r : List Fact
    r = filter (λ g. keep g.variable) fs

    on : (b : Bool) → map (λ g. fact_of (place keep g.variable) g) r ≡ kept_facts keep fs → map (λ g. fact_of (place keep g.variable) g) (cond b (f ∷ r) r) ≡ cond b (fact_of (place keep f.variable) f ∷ kept_facts keep fs) (kept_facts keep fs)
    on true e = ap (λ gs. fact_of (place keep f.variable) f ∷ gs) e
    on false e = e

asks_is : (asked : List Fact) (v : ℕ) → list_any (λ f. f.variable == v) asked ≡ asks (map as_precondition asked) v
asks_is [] v = refl
asks_is (f ∷ fs) v = ap (λ b. f.variable == v || b) (asks_is fs v)

-- the free facts are the effects on variables that are not asked for, at 0
pub unasked_is : (asked fs : List Fact) → map (λ f. at_zero f.variable) (filter (λ f. not (list_any (λ g. g.variable == f.variable) asked)) fs) ≡ map at_zero (unasked (map as_precondition asked) fs)
unasked_is asked [] = refl
unasked_is asked (f ∷ fs) = ap (λ b. map (λ g. at_zero g.variable) (cond (not b) (f ∷ r) r)) (asks_is asked f.variable) ∙ on (asks (map as_precondition asked) f.variable) (unasked_is asked fs)
  where
    r : List Fact
    r = filter (λ g. not (list_any (λ h. h.variable == g.variable) asked)) fs

    u : List ℕ
    u = unasked (map as_precondition asked) fs

    on : (b : Bool) → map (λ g. at_zero g.variable) r ≡ map at_zero u → map (λ g. at_zero g.variable) (cond (not b) (f ∷ r) r) ≡ map at_zero (cond b u (f.variable ∷ u))
    on true e = e
    on false e = ap (λ gs. at_zero f.variable ∷ gs) e

-- what is left of an operator, from what is asked and set, and what they were made from
pub moved_is : (keep : ℕ → Bool) (a : Action) (asked slice facts effects fs : List Fact) (ps : List Precondition) → asked ≡ kept_facts keep slice → slice ≡ facts → facts ≡ map as_fact ps → ps ≡ a.preconditions → effects ≡ kept_facts keep fs → fs ≡ a.effects → record { preconditions = map as_precondition asked; effects = effects } ≡ projected_action keep a
moved_is keep a asked slice facts effects fs ps is sliced as-facts from-ps set from-fs =
    let whole : asked ≡ kept_facts keep (map as_fact a.preconditions) = is ∙ ap (kept_facts keep) (sliced ∙ as-facts ∙ ap (map as_fact) from-ps) in
    ap (λ qs. record { preconditions = qs; effects = effects }) (ap (map as_precondition) whole ∙ sym (kept_asked keep a.preconditions))
    ∙ ap (λ gs. record { preconditions = kept_preconditions keep a.preconditions; effects = gs }) (set ∙ ap (kept_facts keep) from-fs)

pub free_is : (free asked effects asked_slice effects_slice : List Fact) → free ≡ map at_zero (unasked (map as_precondition asked_slice) effects_slice) → asked_slice ≡ asked → effects_slice ≡ effects → free ≡ map at_zero (unasked (map as_precondition asked) effects)
free_is free asked effects asked_slice effects_slice is a e = is ∙ ap (λ gs. map at_zero (unasked (map as_precondition gs) effects_slice)) a ∙ ap (λ gs. map at_zero (unasked (map as_precondition asked) gs)) e

-- what is left of each operator, where the list is made of where each one is
pub moves_collected : {E : Type 0} (keep : ℕ → Bool) (os : List Operator) (r : Result (Vec Move Global) E) → IfOk r (λ v. length (vec_items v) ≡ length os) → IfOk r (λ v. (k : ℕ) (m : Move) (o : Operator) → k < length os → action (get_or (vec_items v) k m) ≡ projected_action keep (Tasks.action (get_or os k o))) → IfOk r (λ v. map action (vec_items v) ≡ map (projected_action keep) (map Tasks.action os))
moves_collected keep os (Ok v) len each = each_made action (λ o. projected_action keep (Tasks.action o)) (vec_items v) os len each ∙ sym (map-map (projected_action keep) Tasks.action os)
moves_collected keep os (Err e) len each = tt

-- the task that a projection holds, from its parts and what they were made from
pub model_is : (keep : ℕ → Bool) (m : Model) (sizes zs : List ℕ) (goal gs : List Fact) (operators os : List Action) → sizes ≡ only keep zs → zs ≡ m.sizes → goal ≡ kept_facts keep gs → gs ≡ m.goal → operators ≡ map (projected_action keep) os → os ≡ m.operators → record { sizes = sizes; goal = goal; operators = operators } ≡ projected keep m
unfolding projected
model_is keep m sizes zs goal gs operators os s from-s g from-g o from-o =
    ap (λ xs. record { sizes = xs; goal = goal; operators = operators }) (s ∙ ap (only keep) from-s)
    ∙ ap (λ xs. record { sizes = only keep m.sizes; goal = xs; operators = operators }) (g ∙ ap (kept_facts keep) from-g)
    ∙ ap (λ xs. record { sizes = only keep m.sizes; goal = kept_facts keep m.goal; operators = xs }) (o ∙ ap (map (projected_action keep)) from-o)
