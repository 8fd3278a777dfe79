-- What a projection holds, at the parts that are read.
use Rattle.std.proofs.Common.{[], Option, None, MatchOption, refl, Some, Bor, ◌≡◌, ℕ, ◌<◌, ◌≤◌, List, map, length, get_or, vec_items, sym, ap, ◌∙◌, subst, arith}
use Rattle.std.specs.Slice.{IsItemAt}
use Rattle.std.specs.List.{All, AllByRecursion}
use Rattle.std.proofs.lemmas.List.Elements.{All-from_recursion}
use Rattle.std.proofs.lemmas.List.{get_or_past, get_or-map, length-map}
use Rattle.sas.specs.Model.{Valued}
use Rattle.sas.specs.States.{idle, operator}
use Rattle.sas.specs.declared.Fact.{Fact}
use Rattle.projections.specs.Asked.{as_precondition, at_zero}
use Rattle.projections.specs.Origins.{free, unasked}
use Rattle.projections.specs.Parts.{action}
use Rattle.projections.specs.Shapes.{Shaped}
use Rattle.projections.specs.View.{view_of}
use Rattle.projections.specs.declared.moves.Move.{Move}
use Rattle.projections.specs.declared.projection.Projection.{Projection}
use Rattle.projections.proofs.Digits.{length_sizes}
use Rattle.projections.proofs.Backward.{frees, unasked_few}
use Rattle.projections.proofs.Edges.{asked_valued, set_few, set_valued}
use Rattle.projections.proofs.Origins.{frees_valued, zero_variables}
use Rattle.projections.proofs.Props.{shaped}

pub held_shaped : (p : Projection) → Shaped (view_of p)
held_shaped p = shaped (view_of p) p.shaped

-- facts with values speak of kept variables
pub inside : (p : Projection) (fs : List Fact) → All (λ f. Valued (view_of p).sizes f.variable f.value) fs → All (λ f. f.variable < length (vec_items p.axes.list)) fs
inside p fs h = λ k d l. omega (arith, (h k d l).0, length_sizes (vec_items p.axes.list))

-- what follows without a value and with one follows
pub by_option : {T : Type 0} {P R : Type 0} {Q : T → Type 0} (r : Option T) → MatchOption r P Q → (r ≡ None → P → R) → ((x : T) → r ≡ Some x → Q x → R) → R
by_option None m f g = f refl m
by_option (Some x) m f g = g x refl m

-- the operator that is found is read
module _ (p : Projection) (o : ℕ) (ms : List Move) (same : ms ≡ vec_items p.moves) (r : Option (Bor Move)) (found : IsItemAt ms o r) where
  module _ (x : Bor Move) (e : r ≡ Some x) where
    read : (o < length ms) × ((d : Move) → x.now ≡ get_or ms o d)
    read = (subst (IsItemAt ms o) e found).3

    within : o < length (vec_items p.moves)
    within = omega (arith, read.0, ap length same)

    pub read_is : operator (view_of p) o ≡ action x.now
    read_is = get_or-map action (vec_items p.moves) o x.now idle within ∙ ap action (sym (read.1 x.now ∙ ap (λ ns. get_or ns o x.now) same))

    pub read_number : o < length (view_of p).operators
    read_number = omega (arith, length-map (vec_items p.moves) action, within)

  pub none_free : r ≡ None → free (view_of p) o ≡ []
  none_free e =
      let past : length ms ≤ o = (subst (IsItemAt ms o) e found).3 in
      ap (λ a. unasked a.preconditions a.effects) (get_or_past (view_of p).operators o idle (omega (arith, ap length same, length-map (vec_items p.moves) action, past)))

-- what is left of an operator
module _ (p : Projection) (o : ℕ) (x : Move) (is : operator (view_of p) o ≡ action x) where
  pub free_is : map (λ f. f.variable) (vec_items x.free) ≡ free (view_of p) o
  free_is = ap (map (λ f. f.variable)) x.frees ∙ zero_variables (unasked (map as_precondition (vec_items x.asked)) (vec_items x.effects)) ∙ ap (λ c. unasked c.preconditions c.effects) (sym is)

  module _ (number : o < length (view_of p).operators) where
    pub asked_values : (fs : List Fact) → fs ≡ vec_items x.asked → All (λ f. Valued (view_of p).sizes f.variable f.value) fs
    asked_values fs e = subst (All (λ f. Valued (view_of p).sizes f.variable f.value)) (sym e) (All-from_recursion (λ f. Valued (view_of p).sizes f.variable f.value) (vec_items x.asked) (asked_valued (view_of p) (held_shaped p) o (vec_items x.asked) (vec_items x.effects) is number))

    effects_valued : AllByRecursion (λ f. Valued (view_of p).sizes f.variable f.value) (vec_items x.effects)
    effects_valued = set_valued (view_of p) (held_shaped p) o (vec_items x.asked) (vec_items x.effects) is number

    pub effect_values : (fs : List Fact) → fs ≡ vec_items x.effects → All (λ f. Valued (view_of p).sizes f.variable f.value) fs
    effect_values fs e = subst (All (λ f. Valued (view_of p).sizes f.variable f.value)) (sym e) (All-from_recursion (λ f. Valued (view_of p).sizes f.variable f.value) (vec_items x.effects) effects_valued)

    pub free_values : (fs : List Fact) → fs ≡ vec_items x.free → All (λ f. Valued (view_of p).sizes f.variable f.value) fs
    free_values fs e = subst (All (λ f. Valued (view_of p).sizes f.variable f.value)) (sym (e ∙ x.frees)) (All-from_recursion (λ f. Valued (view_of p).sizes f.variable f.value) (map at_zero (frees (vec_items x.asked) (vec_items x.effects))) (frees_valued (view_of p).sizes (vec_items x.asked) (vec_items x.effects) effects_valued))

    -- the free facts speak of kept variables, and are few
    pub free_held : (fs : List Fact) → fs ≡ vec_items x.free → All (λ f. f.variable < length (vec_items p.axes.list)) fs × (length fs ≤ 8)
    free_held fs e =
        let vs = unasked (map as_precondition (vec_items x.asked)) (vec_items x.effects) in
        let short = unasked_few (map as_precondition (vec_items x.asked)) (vec_items x.effects) in
        (inside p fs (free_values fs e), omega (arith, ap length (e ∙ x.frees), length-map vs at_zero, short, set_few (view_of p) (held_shaped p) o (vec_items x.asked) (vec_items x.effects) is number))
