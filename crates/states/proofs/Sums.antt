-- A rank is added up one variable at a time, in Horner's form.
use Rattle.std.proofs.Common.{◌≡◌, ℕ, suc, ◌+◌, ◌*◌, ◌<◌, ◌≤◌, List, ◌∷◌, Option, Some, None, Bor, sym, ap, ◌∙◌, subst, mul_assoc, mul-le-mul_left, mul-zero, mul-one, mul-add, arith}
use Rattle.std.specs.Iterator.Adapters.{zip_first, zip_second}
use Rattle.std.specs.Slice.Iter.{iter_rest}
use Rattle.std.specs.declared.iter.Zip.{Zip}
use Rattle.std.specs.declared.slice.Iter.{Iter}
use Rattle.std.proofs.iter.Yields.{fronts}
use Rattle.std.proofs.lemmas.Iterator.{empty_from_Zip, zips}
use Rattle.std.proofs.lemmas.Slice.Zip.{Zip-more}
use Rattle.sas.specs.Model.{product}
use Rattle.sas.specs.States.{State}
use Rattle.sas.proofs.Horner.{horner, horner_below}

-- the sum over the variables so far, and the product of their sizes; zs and xs are the sizes and the values that are left
pub record SoFar (sizes s : List ℕ) (sum coefficient : ℕ) (zs xs : List ℕ) : Type 0 where
  pub below : sum < coefficient
  pub left : State zs xs
  pub all : coefficient * product zs ≡ product sizes
  pub whole : sum + coefficient * horner zs xs ≡ horner sizes s

rest_state : (z x : ℕ) (zs xs : List ℕ) → State (z ∷ zs) (x ∷ xs) → State zs xs
rest_state z x zs xs h = (omega (arith, h.0), λ v within. h.1 (suc v) (omega arith))

module _ {sizes s : List ℕ} {sum c z x : ℕ} {zs xs : List ℕ} (so_far : SoFar sizes s sum c (z ∷ zs) (x ∷ xs)) where
  -- within a turn nothing passes the number of states
  pub fits : (sum + c * x < c * z) × (c * z ≤ product sizes)
  fits =
      let low : x + 1 ≤ z = omega (arith, so_far.left.1 0 (omega arith)) in
      let rest = horner_below zs xs (rest_state z x zs xs so_far.left) in
      let one : 1 ≤ product zs = omega arith in
      (omega (arith, so_far.below, mul-le-mul_left c low, mul-add c x 1, mul-one c), omega (arith, so_far.all, mul_assoc c z (product zs), mul-le-mul_left (c * z) one, mul-one (c * z)))

  pub further : SoFar sizes s (sum + c * x) (c * z) zs xs
  further = record {
    below = fits.0;
    left = rest_state z x zs xs so_far.left;
    all = omega (arith, so_far.all, mul_assoc c z (product zs));
    whole = omega (arith, so_far.whole, mul-add c x (z * horner zs xs), mul_assoc c z (horner zs xs));
  }

-- the next turn, where what is left stands in an iterator
pub turned : {sizes s : List ℕ} {sum c : ℕ} (from to : Zip (Iter ℕ) (Iter ℕ)) (r : Option (Bor ℕ × Bor ℕ)) (p : Bor ℕ × Bor ℕ) (x z : ℕ) → SoFar sizes s sum c (iter_rest (zip_second from)) (iter_rest (zip_first from)) → r ≡ Some p → zips fronts fronts from r to → x ≡ p.0.now → z ≡ p.1.now → SoFar sizes s sum c (z ∷ iter_rest (zip_second to)) (x ∷ iter_rest (zip_first to))
turned {sizes} {s} {sum} {c} from to r p x z so_far is steps at_x at_z =
    let rest = Zip-more from to r p is steps in
    subst (λ zs. SoFar sizes s sum c zs (x ∷ iter_rest (zip_first to))) (rest.1 ∙ ap (λ y. y ∷ iter_rest (zip_second to)) (sym at_z))
    (subst (λ xs. SoFar sizes s sum c (iter_rest (zip_second from)) xs) (rest.0 ∙ ap (λ y. y ∷ iter_rest (zip_first to)) (sym at_x)) so_far)

pub ended : {sizes s : List ℕ} {sum c : ℕ} (from to : Zip (Iter ℕ) (Iter ℕ)) (r : Option (Bor ℕ × Bor ℕ)) → SoFar sizes s sum c (iter_rest (zip_second from)) (iter_rest (zip_first from)) → r ≡ None → zips fronts fronts from r to → sum ≡ horner sizes s
ended {sizes} {s} {sum} {c} from to r so_far is steps =
    let none = empty_from_Zip from to r is steps so_far.left.0 in
    omega (arith, so_far.whole, ap (λ zs. c * horner zs (iter_rest (zip_first from))) none.1, mul-zero c)
