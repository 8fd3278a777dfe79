-- The steps of a projected task by rank, and the states of its ranks.
use Rattle.std.proofs.Common.{◌≡◌, ℕ, ◌<◌, ◌≤◌, Bool, List, [], ◌∷◌, map, length, get_or, Decides, sym, ap, ◌∙◌, subst, inl, inr, arith}
use mathlib.Core.List.{map-map}
use Rattle.std.specs.List.{AllByRecursion}
use Rattle.std.proofs.ByRecursion.{All-get_or, All-weaker}
use Rattle.std.proofs.lemmas.List.{get_or_past}
use Rattle.std.proofs.lemmas.Bool.{cases_lt}
use Rattle.sas.specs.Model.{Action, Model, Distinct, Valued}
use Rattle.sas.specs.Ranks.{rank, states, GoalRank, StepRank}
use Rattle.sas.specs.States.{State, Holds, Stands, Step, outcome, operator, idle}
use Rattle.sas.specs.declared.Fact.{Fact}
use Rattle.sas.proofs.Digits.{digit_is}
use Rattle.sas.proofs.Moves.{step_from, goal_rank_decides}
use Rattle.sas.proofs.Outcomes.{outcome_state}
use Rattle.sas.proofs.Steps.{applies_is, step_is, goal_is, holds_is, stands_is, from_state, numbered}
use Rattle.sas.proofs.Unranks.{unrank, unrank_in, rank_of_unrank, rank_below}
use Rattle.projections.specs.Asked.{as_precondition}
use Rattle.projections.specs.Parts.{digit}
use Rattle.projections.specs.Projection.{Edge, Remains}
use Rattle.projections.specs.Shapes.{Shaped, ShapedAction}
use Rattle.projections.proofs.Scales.{sizes_positive}

pub positive_sizes : (p : Model) → Shaped p → AllByRecursion (λ z. 0 < z) p.sizes
positive_sizes p h = sizes_positive p.sizes h.sized

-- the state of a rank
pub state_onto : (p : Model) → Shaped p → (k : ℕ) → State p.sizes (unrank p.sizes k)
state_onto p h k = unrank_in p.sizes (positive_sizes p h) k

pub rank_onto : (p : Model) → Shaped p → (k : ℕ) → k < states p → rank p.sizes (unrank p.sizes k) ≡ k
unfolding states
rank_onto p h k l = rank_of_unrank p.sizes (positive_sizes p h) k l

-- what is kept of the operator that is numbered
pub shaped_at : (p : Model) → Shaped p → (o : ℕ) → o < length p.operators → ShapedAction p.sizes (operator p o)
shaped_at p h o l = All-get_or (ShapedAction p.sizes) p.operators o idle l h.acting

-- a step leads to a state
pub step_into : (p : Model) → Shaped p → (o : ℕ) (s t : List ℕ) → Step p o s t → State p.sizes t
step_into p h o s t d = subst (State p.sizes) (sym ((step_is p o s t).0 d).1) (outcome_state p.sizes (operator p o).effects s (shaped_at p h o (numbered p o s t d)).effects_valued (from_state p o s t d))

pub edge_inside : (p : Model) → Shaped p → (o k l : ℕ) → Edge p o k l → (k < states p) × (l < states p)
unfolding StepRank
edge_inside p h o k l e =
    let d = e.1 in
    (subst (λ n. n < states p) d.3 (rank_below p d.0 (from_state p o d.0 d.1 d.2)), subst (λ n. n < states p) d.4 (rank_below p d.1 (step_into p h o d.0 d.1 d.2)))

pub edge_number : (p : Model) (o k l : ℕ) → Edge p o k l → o < length p.operators
unfolding StepRank
edge_number p o k l e = let d = e.1 in numbered p o d.0 d.1 d.2

-- the step of an edge
pub edge_step : (p : Model) (o k l : ℕ) → Edge p o k l → (s : List ℕ) × (t : List ℕ) × Step p o s t × (rank p.sizes s ≡ k) × (rank p.sizes t ≡ l)
unfolding StepRank
edge_step p o k l e = e.1

pub edge_from_step : (p : Model) (o k l : ℕ) (s t : List ℕ) → Remains p o → Step p o s t → rank p.sizes s ≡ k → rank p.sizes t ≡ l → Edge p o k l
unfolding StepRank
edge_from_step p o k l s t r d es et = (r, (s, t, d, es, et))

-- what holds of each image
pub all_unmap : {X Y : Type 0} (P : Y → Type 0) (f : X → Y) (xs : List X) → AllByRecursion P (map f xs) → AllByRecursion (λ x. P (f x)) xs
all_unmap P f [] h = tt
all_unmap P f (x ∷ xs) h = (h.0, all_unmap P f xs h.1)

-- the facts stand in a state
abbrev pub Stand : List Fact → List ℕ → Type 0
Stand fs s = AllByRecursion (λ f. get_or s f.variable 0 ≡ f.value) fs

-- the values of a state, as digits of its rank
module _ (sizes s : List ℕ) (k : ℕ) (hs : State sizes s) (e : rank sizes s ≡ k) where
  pub digit_of_lem : (v : ℕ) → v < length sizes → get_or s v 0 ≡ digit sizes v k
  digit_of_lem v l = digit_is sizes s hs v l ∙ ap (digit sizes v) e

  pub stand_from : (fs : List Fact) → AllByRecursion (λ f. f.variable < length sizes) fs → AllByRecursion (λ f. digit sizes f.variable k ≡ f.value) fs → Stand fs s
  stand_from [] inside h = tt
  stand_from (f ∷ fs) inside h = (digit_of_lem f.variable inside.0 ∙ h.0, stand_from fs inside.1 h.1)

  pub digits_from : (fs : List Fact) → AllByRecursion (λ f. f.variable < length sizes) fs → Stand fs s → AllByRecursion (λ f. digit sizes f.variable k ≡ f.value) fs
  digits_from [] inside h = tt
  digits_from (f ∷ fs) inside h = (sym (digit_of_lem f.variable inside.0) ∙ h.0, digits_from fs inside.1 h.1)

-- the preconditions of an operator hold where they stand as facts
pub stand_from_holds : (fs : List Fact) (s : List ℕ) → AllByRecursion (λ q. Holds q s) (map as_precondition fs) → Stand fs s
stand_from_holds [] s h = tt
stand_from_holds (f ∷ fs) s h = ((holds_is (as_precondition f) s).0 h.0, stand_from_holds fs s h.1)

pub holds_from_stand : (fs : List Fact) (s : List ℕ) → Stand fs s → AllByRecursion (λ q. Holds q s) (map as_precondition fs)
holds_from_stand [] s h = tt
holds_from_stand (f ∷ fs) s h = ((holds_is (as_precondition f) s).1 h.0, holds_from_stand fs s h.1)

pub within : (sizes : List ℕ) (fs : List Fact) → AllByRecursion (λ f. Valued sizes f.variable f.value) fs → AllByRecursion (λ f. f.variable < length sizes) fs
within sizes fs h = All-weaker (λ f. Valued sizes f.variable f.value) (λ f. f.variable < length sizes) (λ f w. w.0) fs h

-- an operator whose preconditions are given as facts
abbrev pub acts : List Fact → List Fact → Action
acts ps es = record { preconditions = map as_precondition ps; effects = es }

module _ (p : Model) (h : Shaped p) (o : ℕ) (ps es : List Fact) (is : operator p o ≡ acts ps es) (l : o < length p.operators) where
  shaped_here : ShapedAction p.sizes (acts ps es)
  shaped_here = subst (ShapedAction p.sizes) is (shaped_at p h o l)

  pub asked_valued : AllByRecursion (λ f. Valued p.sizes f.variable f.value) ps
  asked_valued = all_unmap (λ q. Valued p.sizes q.variable q.value) as_precondition ps shaped_here.preconditions_valued

  pub asked_distinct : Distinct (map (λ f. f.variable) ps)
  asked_distinct = subst Distinct (map-map (λ q. q.variable) as_precondition ps) shaped_here.preconditions_distinct

  pub set_valued : AllByRecursion (λ f. Valued p.sizes f.variable f.value) es
  set_valued = shaped_here.effects_valued

  pub set_distinct : Distinct (map (λ f. f.variable) es)
  set_distinct = shaped_here.effects_distinct

  pub set_few : length es ≤ 8
  set_few = shaped_here.few_effects

  pub step_here : (s : List ℕ) → State p.sizes s → Stand ps s → Step p o s (outcome es s)
  step_here s hs stand = (step_is p o s (outcome es s)).1 ((applies_is p o s).1 (l, hs, subst (λ a. AllByRecursion (λ q. Holds q s) a.preconditions) (sym is) (holds_from_stand ps s stand)), ap (λ a. outcome a.effects s) (sym is))

  pub step_stand : (s t : List ℕ) → Step p o s t → Stand ps s
  step_stand s t d = stand_from_holds ps s (subst (λ a. AllByRecursion (λ q. Holds q s) a.preconditions) is ((applies_is p o s).0 ((step_is p o s t).0 d).0).2)

  pub step_made : (s t : List ℕ) → Step p o s t → t ≡ outcome es s
  step_made s t d = ((step_is p o s t).0 d).1 ∙ ap (λ a. outcome a.effects s) is

  -- no edge from a rank whose digits are not those asked for
  pub no_edge : (k : ℕ) → k < states p → (AllByRecursion (λ f. digit p.sizes f.variable k ≡ f.value) ps → ⊥) → (t : ℕ) → Edge p o k t → ⊥
  no_edge k low never t e =
      let s = unrank p.sizes k in
      let d = step_from p o k t s (state_onto p h k) (rank_onto p h k low) e.1 in
      never (digits_from p.sizes s k (state_onto p h k) (rank_onto p h k low) ps (within p.sizes ps asked_valued) (step_stand s d.0 d.1))

  -- and an edge to the rank that the effects make, where they are
  pub some_edge : (k r : ℕ) → k < states p → Remains p o → AllByRecursion (λ f. digit p.sizes f.variable k ≡ f.value) ps → ((s : List ℕ) → State p.sizes s → rank p.sizes s ≡ k → r ≡ rank p.sizes (outcome es s)) → Edge p o k r
  some_edge k r low remains stand made =
      let s = unrank p.sizes k in
      let hs = state_onto p h k in
      let e = rank_onto p h k low in
      edge_from_step p o k r s (outcome es s) remains (step_here s hs (stand_from p.sizes s k hs e ps (within p.sizes ps asked_valued) stand)) e (sym (made s hs e))

pub goal_decides : (p : Model) → Shaped p → (k : ℕ) → k < states p → (b : Bool) → Decides b (AllByRecursion (λ f. digit p.sizes f.variable k ≡ f.value) p.goal) → Decides b (GoalRank p k)
goal_decides p h k low b d =
    let s = unrank p.sizes k in
    let hs = state_onto p h k in
    let e = rank_onto p h k low in
    let inside = within p.sizes p.goal h.goal_valued in
    goal_rank_decides p k s b hs e (
      λ t. (goal_is p s).1 (hs, All-weaker (λ f. get_or s f.variable 0 ≡ f.value) (λ f. Stands f s) (λ f q. (stands_is f s).1 q) p.goal (stand_from p.sizes s k hs e p.goal inside (d.0 t))),
      λ g. d.1 (digits_from p.sizes s k hs e p.goal inside (All-weaker (λ f. Stands f s) (λ f. get_or s f.variable 0 ≡ f.value) (λ f q. (stands_is f s).0 q) p.goal ((goal_is p s).0 g).1)),
    )

-- an operator that remains is there
pub remains_number : (p : Model) (o : ℕ) → Remains p o → o < length p.operators
remains_number p o remains = elim (cases_lt o (length p.operators)) [
  | inl l ↦ l
  | inr past ↦ absurd (omega (arith, remains, ap (λ a. length a.effects) (get_or_past p.operators o idle past)))
]

-- an operator leads from a rank to one rank alone
pub edge_one : (p : Model) (o k l n : ℕ) → Edge p o k l → Edge p o k n → l ≡ n
edge_one p o k l n e f =
    let d = edge_step p o k l e in
    let g = step_from p o k n d.0 (from_state p o d.0 d.1 d.2) d.3 f.1 in
    sym d.4 ∙ ap (rank p.sizes) (((step_is p o d.0 d.1).0 d.2).1 ∙ sym ((step_is p o d.0 g.0).0 g.1).1) ∙ g.2
