-- The kept facts and preconditions: what was said of them, and what they make of a state.
use Rattle.std.proofs.Common.{◌≡◌, ℕ, suc, ◌≤◌, Bool, true, false, cond, List, [], ◌∷◌, map, length, set, sym, refl, ap, ◌∙◌, subst, arith}
use Rattle.std.specs.List.{AllByRecursion}
use Rattle.sas.specs.Model.{Distinct, Valued}
use Rattle.sas.specs.States.{Holds, Stands, outcome}
use Rattle.sas.specs.declared.Fact.{Fact}
use Rattle.sas.specs.declared.Precondition.{Precondition}
use Rattle.sas.proofs.Steps.{holds_is, stands_is}
use Rattle.projections.specs.Asked.{as_fact, as_precondition}
use Rattle.projections.specs.Projection.{only, place, kept, kept_facts, kept_preconditions}
use Rattle.projections.proofs.Only.{place_apart, place_below, get_or_only, set_only, set_other}

module _ {X : Type 0} (variable : X → ℕ) (renumbered : ℕ → X → X) (keep : ℕ → Bool) where
  -- what holds of each part holds, put anew, of each that is kept
  pub kept_all : (P Q : X → Type 0) → ((x : X) → keep (variable x) ≡ true → P x → Q (renumbered (place keep (variable x)) x)) → (xs : List X) → AllByRecursion P xs → AllByRecursion Q (kept variable renumbered keep xs)
  kept_all P Q f [] h = tt
  kept_all P Q f (x ∷ xs) h = on (keep (variable x)) refl (kept_all P Q f xs h.1)
    where
      r : List X
      r = kept variable renumbered keep xs

      on : (b : Bool) → keep (variable x) ≡ b → AllByRecursion Q r → AllByRecursion Q (cond b (renumbered (place keep (variable x)) x ∷ r) r)
      on true e a = (f x e h.0, a)
      on false e a = a

  pub kept_fewer : (xs : List X) → length (kept variable renumbered keep xs) ≤ length xs
  kept_fewer [] = omega arith
  kept_fewer (x ∷ xs) = on (keep (variable x)) (kept_fewer xs)
    where
      r : List X
      r = kept variable renumbered keep xs

      on : (b : Bool) → length r ≤ length xs → length (cond b (renumbered (place keep (variable x)) x ∷ r) r) ≤ suc (length xs)
      on true e = omega arith
      on false e = omega arith

  module _ (named : (v : ℕ) (x : X) → variable (renumbered v x) ≡ v) where
    kept_differ : (v : ℕ) → keep v ≡ true → (xs : List X) → AllByRecursion (λ y. v ≡ y → ⊥) (map variable xs) → AllByRecursion (λ y. place keep v ≡ y → ⊥) (map variable (kept variable renumbered keep xs))
    kept_differ v k [] h = tt
    kept_differ v k (x ∷ xs) h = on (keep (variable x)) refl (kept_differ v k xs h.1)
      where
        r : List X
        r = kept variable renumbered keep xs

        on : (b : Bool) → keep (variable x) ≡ b → AllByRecursion (λ y. place keep v ≡ y → ⊥) (map variable r) → AllByRecursion (λ y. place keep v ≡ y → ⊥) (map variable (cond b (renumbered (place keep (variable x)) x ∷ r) r))
        on true e a = (λ q. h.0 (place_apart keep v (variable x) k e (q ∙ named (place keep (variable x)) x)), a)
        on false e a = a

    pub kept_distinct : (xs : List X) → Distinct (map variable xs) → Distinct (map variable (kept variable renumbered keep xs))
    kept_distinct [] h = tt
    kept_distinct (x ∷ xs) h = on (keep (variable x)) refl (kept_distinct xs h.1)
      where
        r : List X
        r = kept variable renumbered keep xs

        p : ℕ
        p = place keep (variable x)

        on : (b : Bool) → keep (variable x) ≡ b → Distinct (map variable r) → Distinct (map variable (cond b (renumbered p x ∷ r) r))
        on true e a = (subst (λ v. AllByRecursion (λ y. v ≡ y → ⊥) (map variable r)) (sym (named p x)) (kept_differ (variable x) e xs h.0), a)
        on false e a = a

valued_only : (keep : ℕ → Bool) (sizes : List ℕ) (v x : ℕ) → keep v ≡ true → Valued sizes v x → Valued (only keep sizes) (place keep v) x
valued_only keep sizes v x k h = (place_below keep sizes v k h.0, omega (arith, h.1, get_or_only keep sizes v 0 k))

abbrev pub fact_of : ℕ → Fact → Fact
fact_of v f = record { variable = v; value = f.value }

abbrev precondition_of : ℕ → Precondition → Precondition
precondition_of v p = record { variable = v; value = p.value }

module _ (keep : ℕ → Bool) where
  pub kept_facts_valued : (sizes : List ℕ) (fs : List Fact) → AllByRecursion (λ f. Valued sizes f.variable f.value) fs → AllByRecursion (λ f. Valued (only keep sizes) f.variable f.value) (kept_facts keep fs)
  kept_facts_valued sizes fs h = kept_all (λ x. x.variable) fact_of keep (λ f. Valued sizes f.variable f.value) (λ f. Valued (only keep sizes) f.variable f.value) (λ f k w. valued_only keep sizes f.variable f.value k w) fs h

  pub kept_preconditions_valued : (sizes : List ℕ) (ps : List Precondition) → AllByRecursion (λ p. Valued sizes p.variable p.value) ps → AllByRecursion (λ p. Valued (only keep sizes) p.variable p.value) (kept_preconditions keep ps)
  kept_preconditions_valued sizes ps h = kept_all (λ x. x.variable) precondition_of keep (λ p. Valued sizes p.variable p.value) (λ p. Valued (only keep sizes) p.variable p.value) (λ p k w. valued_only keep sizes p.variable p.value k w) ps h

  pub kept_facts_distinct : (fs : List Fact) → Distinct (map (λ f. f.variable) fs) → Distinct (map (λ f. f.variable) (kept_facts keep fs))
  kept_facts_distinct fs h = kept_distinct (λ x. x.variable) fact_of keep (λ v f. refl) fs h

  pub kept_preconditions_distinct : (ps : List Precondition) → Distinct (map (λ p. p.variable) ps) → Distinct (map (λ p. p.variable) (kept_preconditions keep ps))
  kept_preconditions_distinct ps h = kept_distinct (λ x. x.variable) precondition_of keep (λ v p. refl) ps h

  -- what stands and holds in a state does so in what is left of it
  pub kept_stand : (s : List ℕ) (fs : List Fact) → AllByRecursion (λ f. Stands f s) fs → AllByRecursion (λ f. Stands f (only keep s)) (kept_facts keep fs)
  kept_stand s fs h = kept_all (λ x. x.variable) fact_of keep (λ f. Stands f s) (λ f. Stands f (only keep s)) (λ f k w. (stands_is _ (only keep s)).1 (get_or_only keep s f.variable 0 k ∙ (stands_is f s).0 w)) fs h

  pub kept_hold : (s : List ℕ) (ps : List Precondition) → AllByRecursion (λ p. Holds p s) ps → AllByRecursion (λ p. Holds p (only keep s)) (kept_preconditions keep ps)
  kept_hold s ps h = kept_all (λ x. x.variable) precondition_of keep (λ p. Holds p s) (λ p. Holds p (only keep s)) (λ p k w. (holds_is _ (only keep s)).1 (get_or_only keep s p.variable 0 k ∙ (holds_is p s).0 w)) ps h

  -- what is left of the outcome is the outcome of what is left
  pub kept_outcome : (fs : List Fact) (s : List ℕ) → only keep (outcome fs s) ≡ outcome (kept_facts keep fs) (only keep s)
  unfolding outcome
  kept_outcome [] s = refl
  kept_outcome (f ∷ fs) s = kept_outcome fs (set s f.variable f.value) ∙ on (keep f.variable) refl
    where
      v : ℕ
      v = f.variable

      r : List Fact
      r = kept_facts keep fs

      g : Fact
      g = record { variable = place keep v; value = f.value }

      on : (b : Bool) → keep v ≡ b → outcome r (only keep (set s v f.value)) ≡ outcome (cond b (g ∷ r) r) (only keep s)
      on true e = ap (outcome r) (set_only keep s v f.value e)
      on false e = ap (outcome r) (set_other keep s v f.value e)

  pub kept_asked : (ps : List Precondition) → kept_preconditions keep ps ≡ map as_precondition (kept_facts keep (map as_fact ps))
  kept_asked [] = refl
  kept_asked (p ∷ ps) = ap (λ r. cond (keep p.variable) (as_precondition (record { variable = place keep p.variable; value = p.value }) ∷ r) r) (kept_asked ps) ∙ on (keep p.variable)
    where
      r : List Fact
      r = kept_facts keep (map as_fact ps)

      g : Fact
      g = record { variable = place keep p.variable; value = p.value }

      on : (b : Bool) → cond b (as_precondition g ∷ map as_precondition r) (map as_precondition r) ≡ map as_precondition (cond b (g ∷ r) r)
      on true = refl
      on false = refl
