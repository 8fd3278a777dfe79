-- The states from which an operator leads to y are those that fill its free variables in what its preconditions make of y, if its effects lead from there to y.
use Rattle.std.proofs.Common.{◌≡◌, ℕ, ◌<◌, ◌≤◌, Bool, true, false, cond, eqb, List, [], ◌∷◌, map, length, get_or, sym, refl, ap, ◌∙◌, inl, inr, arith}
use Rattle.std.specs.List.{ContainsAt, AllByRecursion}
use Rattle.std.proofs.ByRecursion.{all-has, all_has_itself, All-weaker}
use Rattle.std.proofs.lemmas.List.{ext_get_or}
use Rattle.std.proofs.lemmas.Bool.{both_ways, eqb-false, ne_eqb, or_parts, or_from}
use Rattle.sas.specs.Model.{Distinct, Valued}
use Rattle.sas.specs.States.{outcome}
use Rattle.sas.specs.declared.Fact.{Fact}
use Rattle.sas.specs.declared.Precondition.{Precondition}
use Rattle.sas.proofs.Outcomes.{Outside, among, length_outcome, outcome_gives, outcome_keeps}
use Rattle.projections.specs.Asked.{as_precondition}
use Rattle.projections.specs.Origins.{asks, unasked}
use Rattle.projections.proofs.Edges.{Stand, all_unmap}
use Rattle.projections.proofs.Fills.{Off}

asks_outside : (fs : List Fact) (v : ℕ) → asks (map as_precondition fs) v ≡ false → Outside fs v
asks_outside [] v h = tt
asks_outside (f ∷ fs) v h =
    let parts = or_parts (eqb f.variable v) (asks (map as_precondition fs) v) h in
    (eqb-false f.variable v parts.0, asks_outside fs v parts.1)

outside_asks : (fs : List Fact) (v : ℕ) → Outside fs v → asks (map as_precondition fs) v ≡ false
outside_asks [] v h = refl
outside_asks (f ∷ fs) v h = or_from (eqb f.variable v) (asks (map as_precondition fs) v) (ne_eqb f.variable v h.0) (outside_asks fs v h.1)

-- what holds of the variables that are set holds of the free ones
pub unasked_all : (P : ℕ → Type 0) (qs : List Precondition) (es : List Fact) → AllByRecursion (λ f. P f.variable) es → AllByRecursion P (unasked qs es)
unasked_all P qs [] h = tt
unasked_all P qs (f ∷ fs) h = on (asks qs f.variable) (unasked_all P qs fs h.1)
  where
    on : (b : Bool) → AllByRecursion P (unasked qs fs) → AllByRecursion P (cond b (unasked qs fs) (f.variable ∷ unasked qs fs))
    on true rest = rest
    on false rest = (h.0, rest)

pub unasked_distinct : (qs : List Precondition) (es : List Fact) → Distinct (map (λ f. f.variable) es) → Distinct (unasked qs es)
unasked_distinct qs [] h = tt
unasked_distinct qs (f ∷ fs) h = on (asks qs f.variable) (unasked_distinct qs fs h.1)
  where
    on : (b : Bool) → Distinct (unasked qs fs) → Distinct (cond b (unasked qs fs) (f.variable ∷ unasked qs fs))
    on true rest = rest
    on false rest = (unasked_all (λ y. f.variable ≡ y → ⊥) qs fs (all_unmap (λ y. f.variable ≡ y → ⊥) (λ g. g.variable) fs h.0), rest)

pub unasked_few : (qs : List Precondition) (es : List Fact) → length (unasked qs es) ≤ length es
unasked_few qs [] = omega arith
unasked_few qs (f ∷ fs) = on (asks qs f.variable) (unasked_few qs fs)
  where
    on : (b : Bool) → length (unasked qs fs) ≤ length fs → length (cond b (unasked qs fs) (f.variable ∷ unasked qs fs)) ≤ length (f ∷ fs)
    on true rest = omega arith
    on false rest = omega arith

-- a variable that is asked for is not free
asked_off : (qs : List Precondition) (es : List Fact) (v : ℕ) → asks qs v ≡ true → Off (unasked qs es) v
asked_off qs [] v h = tt
asked_off qs (f ∷ fs) v h = on (asks qs f.variable) refl (asked_off qs fs v h)
  where
    on : (b : Bool) → asks qs f.variable ≡ b → Off (unasked qs fs) v → Off (cond b (unasked qs fs) (f.variable ∷ unasked qs fs)) v
    on true e rest = rest
    on false e rest = (λ q. both_ways (asks qs v) (ap (asks qs) (sym q) ∙ e) h, rest)

-- one that is neither asked for nor free is not set
off_outside : (qs : List Precondition) (es : List Fact) (v : ℕ) → asks qs v ≡ false → Off (unasked qs es) v → Outside es v
off_outside qs [] v h off = tt
off_outside qs (f ∷ fs) v h off = on (asks qs f.variable) refl off (off_outside qs fs v h)
  where
    on : (b : Bool) → asks qs f.variable ≡ b → Off (cond b (unasked qs fs) (f.variable ∷ unasked qs fs)) v → (Off (unasked qs fs) v → Outside fs v) → Outside (f ∷ fs) v
    on true e rest again = (λ q. both_ways (asks qs v) h (ap (asks qs) (sym q) ∙ e), again rest)
    on false e rest again = (rest.0, again rest.1)

-- the value that a fact gives
given_at : (fs : List Fact) (s : List ℕ) (v : ℕ) (f : Fact) → Distinct (map (λ g. g.variable) fs) → AllByRecursion (λ g. g.variable < length s) fs → ContainsAt fs f → f.variable ≡ v → get_or (outcome fs s) v 0 ≡ f.value
given_at fs s v f distinct inside has q = ap (λ i. get_or (outcome fs s) i 0) (sym q) ∙ all-has (λ g. get_or (outcome fs s) g.variable 0 ≡ g.value) fs f (outcome_gives fs s distinct inside) has

-- states that differ only where facts speak are made the same
pub outcome_agree : (fs : List Fact) (s x : List ℕ) → length s ≡ length x → Distinct (map (λ f. f.variable) fs) → AllByRecursion (λ f. f.variable < length s) fs → AllByRecursion (λ f. f.variable < length x) fs → ((v : ℕ) → Outside fs v → get_or s v 0 ≡ get_or x v 0) → outcome fs s ≡ outcome fs x
outcome_agree fs s x even distinct ins inx agree = ext_get_or 0 (outcome fs s) (outcome fs x) (length_outcome fs s ∙ even ∙ sym (length_outcome fs x)) (λ v l. elim (among fs v) [
  | inl h ↦ given_at fs s v h.0 distinct ins h.1 h.2 ∙ sym (given_at fs x v h.0 distinct inx h.1 h.2)
  | inr out ↦ outcome_keeps fs s v out ∙ agree v out ∙ sym (outcome_keeps fs x v out)
])

-- the variables that are set without being asked for
abbrev pub frees : List Fact → List Fact → List ℕ
frees ps es = unasked (map as_precondition ps) es

module _ (sizes : List ℕ) (ps es : List Fact) (pv : AllByRecursion (λ f. Valued sizes f.variable f.value) ps) (pd : Distinct (map (λ f. f.variable) ps)) (ev : AllByRecursion (λ f. Valued sizes f.variable f.value) es) (ed : Distinct (map (λ f. f.variable) es)) where
  there : (fs : List Fact) (s : List ℕ) → length s ≡ length sizes → AllByRecursion (λ f. Valued sizes f.variable f.value) fs → AllByRecursion (λ f. f.variable < length s) fs
  there fs s even h = All-weaker (λ f. Valued sizes f.variable f.value) (λ f. f.variable < length s) (λ f w. omega (arith, w.0, even)) fs h

  outside_off : (v : ℕ) → Outside es v → Off (frees ps es) v
  outside_off v out = unasked_all (λ w. w ≡ v → ⊥) (map as_precondition ps) es out

  asked_not_free : (f : Fact) → ContainsAt ps f → Off (frees ps es) f.variable
  asked_not_free f has = on (asks (map as_precondition ps) f.variable) refl
    where
      on : (b : Bool) → asks (map as_precondition ps) f.variable ≡ b → Off (frees ps es) f.variable
      on true e = asked_off (map as_precondition ps) es f.variable e
      on false e = absurd (all-has (λ g. g.variable ≡ f.variable → ⊥) ps f (asks_outside ps f.variable e) has refl)

  -- whatever agrees with the start but for the free variables leads to y
  pub leads_to : (y x : List ℕ) → length y ≡ length sizes → length x ≡ length sizes → outcome es (outcome ps y) ≡ y → ((v : ℕ) → Off (frees ps es) v → get_or x v 0 ≡ get_or (outcome ps y) v 0) → Stand ps x × (outcome es x ≡ y)
  leads_to y x ey ex test agree = (
    All-weaker (ContainsAt ps) (λ f. get_or x f.variable 0 ≡ f.value) (λ f has. agree f.variable (asked_not_free f has) ∙ given_at ps y f.variable f pd (there ps y ey pv) has refl) ps (all_has_itself ps),
    outcome_agree es x (outcome ps y) (ex ∙ sym (length_outcome ps y ∙ ey)) ed (there es x ex ev) (there es (outcome ps y) (length_outcome ps y ∙ ey) ev) (λ v out. agree v (outside_off v out)) ∙ test,
  )

  -- a state from which it leads to y agrees with the start
  pub start_agrees : (x : List ℕ) → length x ≡ length sizes → Stand ps x → (v : ℕ) → Off (frees ps es) v → get_or (outcome ps (outcome es x)) v 0 ≡ get_or x v 0
  start_agrees x ex stand v off = elim (among ps v) [
    | inl h ↦ given_at ps (outcome es x) v h.0 pd (there ps (outcome es x) (length_outcome es x ∙ ex) pv) h.1 h.2 ∙ sym (all-has (λ g. get_or x g.variable 0 ≡ g.value) ps h.0 stand h.1) ∙ ap (λ i. get_or x i 0) h.2
    | inr out ↦ outcome_keeps ps (outcome es x) v out ∙ outcome_keeps es x v (off_outside (map as_precondition ps) es v (outside_asks ps v out) off)
  ]

  -- and the effects lead from the start to y
  pub start_leads : (x : List ℕ) → length x ≡ length sizes → Stand ps x → outcome es (outcome ps (outcome es x)) ≡ outcome es x
  start_leads x ex stand =
      let y = outcome es x in
      let ey = length_outcome es x ∙ ex in
      outcome_agree es (outcome ps y) x (length_outcome ps y ∙ ey ∙ sym ex) ed (there es (outcome ps y) (length_outcome ps y ∙ ey) ev) (there es x ex ev) (λ v out. start_agrees x ex stand v (outside_off v out))
