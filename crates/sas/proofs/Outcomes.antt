-- What effects make of the values: they stand, every other value is kept, and a state stays one.
use Rattle.std.proofs.Common.{◌≡◌, ℕ, suc, ◌+◌, ◌<◌, ◌≤◌, ◌⊎◌, List, [], ◌∷◌, map, length, get_or, drop, set, sym, refl, ap, ◌∙◌, inl, inr, arith, length-set, get_or-set_other, get_or-set_same}
use native.Mathlib.Decide.{ℕ_discrete}
use Rattle.std.specs.List.{ContainsAt, AllByRecursion}
use Rattle.std.proofs.ByRecursion.{all-has, All-weaker, All-from_get_or, has_get_or}
use Rattle.std.proofs.lemmas.List.{at_drop_more, at_drop_all, ext_get_or}
use Rattle.sas.specs.declared.Fact.{Fact}
use Rattle.sas.specs.Model.{Distinct, Valued}
use Rattle.sas.specs.States.{State, Stands, outcome}

-- v is the variable of none of the facts
abbrev pub Outside : List Fact → ℕ → Type 0
Outside fs v = AllByRecursion (λ f. f.variable ≡ v → ⊥) fs

pub length_outcome : (fs : List Fact) (s : List ℕ) → length (outcome fs s) ≡ length s
unfolding outcome
length_outcome [] s = refl
length_outcome (f ∷ fs) s = length_outcome fs (set s f.variable f.value) ∙ length-set s f.variable f.value

pub outcome_keeps : (fs : List Fact) (s : List ℕ) (v : ℕ) → Outside fs v → get_or (outcome fs s) v 0 ≡ get_or s v 0
unfolding outcome
outcome_keeps [] s v h = refl
outcome_keeps (f ∷ fs) s v h = outcome_keeps fs (set s f.variable f.value) v h.1 ∙ get_or-set_other s f.variable v f.value 0 (λ e. h.0 (sym e))

-- the variables behind a first one differ from it
pub outside_rest : (v : ℕ) (fs : List Fact) → AllByRecursion (λ y. v ≡ y → ⊥) (map (λ f. f.variable) fs) → Outside fs v
outside_rest v [] h = tt
outside_rest v (f ∷ fs) h = (λ e. h.0 (sym e), outside_rest v fs h.1)

inside_set : (fs : List Fact) (s : List ℕ) (v x : ℕ) → AllByRecursion (λ f. f.variable < length s) fs → AllByRecursion (λ f. f.variable < length (set s v x)) fs
inside_set fs s v x h = All-weaker (λ f. f.variable < length s) (λ f. f.variable < length (set s v x)) (λ f l. omega (arith, l, length-set s v x)) fs h

pub outcome_gives : (fs : List Fact) (s : List ℕ) → Distinct (map (λ f. f.variable) fs) → AllByRecursion (λ f. f.variable < length s) fs → AllByRecursion (λ f. get_or (outcome fs s) f.variable 0 ≡ f.value) fs
unfolding outcome
outcome_gives [] s d h = tt
outcome_gives (f ∷ fs) s d h =
    let t = set s f.variable f.value in
    let here = outcome_keeps fs t f.variable (outside_rest f.variable fs d.0) ∙ get_or-set_same s f.variable f.value 0 h.0 in
    (here, outcome_gives fs t d.1 (inside_set fs s f.variable f.value h.1))

pub outcome_stands : (fs : List Fact) (s : List ℕ) (f : Fact) → Distinct (map (λ g. g.variable) fs) → AllByRecursion (λ g. g.variable < length s) fs → ContainsAt fs f → Stands f (outcome fs s)
unfolding Stands
outcome_stands fs s f d h has = all-has (λ g. get_or (outcome fs s) g.variable 0 ≡ g.value) fs f (outcome_gives fs s d h) has

pub state_set : (sizes s : List ℕ) (v x : ℕ) → State sizes s → Valued sizes v x → State sizes (set s v x)
state_set sizes s v x h w = (
  length-set s v x ∙ h.0,
  λ k l. elim (ℕ_discrete k v) [
    | yes q ↦
        let inside : v < length s = omega (arith, h.0, w.0) in
        let here : get_or (set s v x) k 0 ≡ x = ap (λ i. get_or (set s v x) i 0) q ∙ get_or-set_same s v x 0 inside in
        let same : get_or sizes k 0 ≡ get_or sizes v 0 = ap (λ i. get_or sizes i 0) q in
        omega (arith, w.1)
    | no n ↦ let there : get_or (set s v x) k 0 ≡ get_or s k 0 = get_or-set_other s v k x 0 n in omega (arith, h.1 k l)
  ],
)

pub outcome_state : (sizes : List ℕ) (fs : List Fact) (s : List ℕ) → AllByRecursion (λ f. Valued sizes f.variable f.value) fs → State sizes s → State sizes (outcome fs s)
unfolding outcome
outcome_state sizes [] s w h = h
outcome_state sizes (f ∷ fs) s w h = outcome_state sizes fs (set s f.variable f.value) w.1 (state_set sizes s f.variable f.value h w.0)

-- v is the variable of a fact, or of none
pub among : (fs : List Fact) (v : ℕ) → ((f : Fact) × ContainsAt fs f × (f.variable ≡ v)) ⊎ Outside fs v
among [] v = inr tt
among (f ∷ fs) v =
    elim (ℕ_discrete f.variable v) [
      | yes q ↦ inl (f, (0, omega arith, λ d. refl), q)
      | no n ↦ elim (among fs v) [
        | inl h ↦ inl (h.0, (suc h.1.0, omega (arith, h.1.1), h.1.2), h.2)
        | inr out ↦ inr (n, out)
      ]
    ]

pub outside_from_has : (fs : List Fact) (v : ℕ) → ((f : Fact) → ContainsAt fs f → f.variable ≡ v → ⊥) → Outside fs v
outside_from_has fs v h = All-from_get_or (λ f. f.variable ≡ v → ⊥) fs (record { variable = 0; value = 0 }) (λ i l. h (get_or fs i (record { variable = 0; value = 0 })) (has_get_or fs i (record { variable = 0; value = 0 }) l))

-- facts of distinct variables have the same outcome in whatever order
pub outcome_same : (fs gs : List Fact) (s : List ℕ) → ((f : Fact) → ContainsAt fs f → ContainsAt gs f) → ((f : Fact) → ContainsAt gs f → ContainsAt fs f) → Distinct (map (λ f. f.variable) fs) → Distinct (map (λ f. f.variable) gs) → AllByRecursion (λ f. f.variable < length s) fs → AllByRecursion (λ f. f.variable < length s) gs → outcome fs s ≡ outcome gs s
unfolding Stands
outcome_same fs gs s to from df dg inf ing = ext_get_or 0 (outcome fs s) (outcome gs s) (length_outcome fs s ∙ sym (length_outcome gs s)) (λ v l. elim (among fs v) [
  | inl h ↦
      let e : get_or (outcome fs s) h.0.variable 0 ≡ get_or (outcome gs s) h.0.variable 0 = outcome_stands fs s h.0 df inf h.1 ∙ sym (outcome_stands gs s h.0 dg ing (to h.0 h.1)) in
      ap (λ i. get_or (outcome fs s) i 0) (sym h.2) ∙ e ∙ ap (λ i. get_or (outcome gs s) i 0) h.2
  | inr out ↦ outcome_keeps fs s v out ∙ sym (outcome_keeps gs s v (outside_from_has gs v (λ f has. all-has (λ g. g.variable ≡ v → ⊥) fs f out (from f has))))
])

-- one more effect put in
pub outcome_more : (fs : List Fact) (s : List ℕ) (i : ℕ) (f : Fact) → i < length fs → outcome (drop i fs) s ≡ outcome (drop (i + 1) fs) (set s (get_or fs i f).variable (get_or fs i f).value)
unfolding outcome
outcome_more fs s i f l = at_drop_more (λ gs. outcome gs s) fs i f l

pub outcome_all : (fs : List Fact) (s : List ℕ) (i : ℕ) → length fs ≤ i → outcome (drop i fs) s ≡ s
unfolding outcome
outcome_all fs s i l = at_drop_all (λ gs. outcome gs s) fs i l
