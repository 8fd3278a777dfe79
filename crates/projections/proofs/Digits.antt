-- What the kept variables give, at the one that is read.
use Rattle.std.proofs.Common.{◌≡◌, ℕ, zero, suc, ◌+◌, ◌-◌, ◌*◌, ◌/◌, ◌%◌, ◌<◌, ◌≤◌, List, [], ◌∷◌, map, sum_by, length, get_or, take, drop, set, sym, refl, ap, ◌∙◌, mod-lt, mul-le-mul_right, mul_comm, mul-le-mul_left, mul-add, mul-one, add-one, arith}
use Rattle.std.specs.List.{AllByRecursion}
use Rattle.std.proofs.ByRecursion.{All-get_or}
use Rattle.std.proofs.lemmas.List.{at_drop_more, get_or-map, length-map, take_all}
use Rattle.std.proofs.lemmas.List.Sums.{sum_by_more}
use Rattle.sas.specs.Model.{Valued, product}
use Rattle.sas.specs.Ranks as Ranks
use Rattle.sas.specs.Ranks.{coefficient}
use Rattle.sas.specs.States.{outcome}
use Rattle.sas.specs.declared.Fact.{Fact}
use Rattle.sas.proofs.Outcomes.{outcome_more}
use Rattle.sas.proofs.Digits.{coefficient_all, coefficient_more, digit_fits, replaced_low, replaced_state}
use Rattle.sas.proofs.Unranks.{unrank}
use Rattle.projections.specs.Origins.{offset}
use Rattle.projections.specs.Parts.{axis_coefficients, axis_places, axis_sizes, digit, folded, scales}
use Rattle.projections.specs.declared.axis.Axis.{Axis}
use Rattle.projections.proofs.Scales.{scale_at, sizes_positive}

pub sizes_sized : (axes : List Axis) → AllByRecursion (λ z. (2 ≤ z) × (z ≤ 16)) (axis_sizes axes)
sizes_sized [] = tt
sizes_sized (a ∷ axes) = (a.sized, sizes_sized axes)

pub axes_positive : (axes : List Axis) → AllByRecursion (λ z. 0 < z) (axis_sizes axes)
axes_positive axes = sizes_positive (axis_sizes axes) (sizes_sized axes)

pub length_sizes : (axes : List Axis) → length (axis_sizes axes) ≡ length axes
length_sizes axes = length-map axes (λ a. a.size)

module _ (axes : List Axis) (v : ℕ) (d : Axis) (l : v < length axes) where
  pub size_at : (get_or axes v d).size ≡ get_or (axis_sizes axes) v 0
  size_at = sym (get_or-map (λ a. a.size) axes v d 0 l)

  pub place_at : (get_or axes v d).whole_coefficient ≡ get_or (axis_places axes) v 0
  place_at = sym (get_or-map (λ a. a.whole_coefficient) axes v d 0 l)

  pub coefficient_at : axis_coefficients axes ≡ scales (axis_sizes axes) → (get_or axes v d).coefficient ≡ coefficient (axis_sizes axes) v
  coefficient_at scaled = sym (get_or-map (λ a. a.coefficient) axes v d 0 l) ∙ ap (λ ks. get_or ks v 0) scaled ∙ scale_at (axis_sizes axes) v (omega (arith, l, length_sizes axes))

module _ (axes : List Axis) (v : ℕ) (x : Axis) (l : v < length axes) (is : x ≡ get_or axes v x) where
  pub size_is : x.size ≡ get_or (axis_sizes axes) v 0
  size_is = ap (λ a. a.size) is ∙ size_at axes v x l

  pub coefficient_is : axis_coefficients axes ≡ scales (axis_sizes axes) → x.coefficient ≡ coefficient (axis_sizes axes) v
  coefficient_is scaled = ap (λ a. a.coefficient) is ∙ coefficient_at axes v x l scaled

  -- the value of the variable in the state of rank k
  pub value_is : axis_coefficients axes ≡ scales (axis_sizes axes) → (k n : ℕ) → n ≡ x.size → k / x.coefficient % n ≡ digit (axis_sizes axes) v k
  value_is scaled k n e = ap (λ c. k / c % n) (coefficient_is scaled) ∙ ap (λ z. k / coefficient (axis_sizes axes) v % z) (e ∙ size_is)

  -- a value at its place
  pub scaled_few : (y n : ℕ) → n ≡ x.size → y % n * x.coefficient ≤ 1048576
  scaled_few y n e =
      let low : y % n < n = mod-lt y (omega (arith, x.sized)) in
      let least : y % n ≤ x.size = omega arith in
      omega (arith, mul-le-mul_right x.coefficient least, mul_comm x.size x.coefficient, x.few)

-- a digit and all before it make up less than the next place
next_low : (so_far c d z : ℕ) → so_far < c → d < z → so_far + d * c < c * z
next_low so_far c d z low within =
    let one : d + 1 ≤ z = omega arith in
    omega (arith, mul-le-mul_left c one, mul-add c d 1, mul-one c, mul_comm d c)

abbrev variables : List Fact → List ℕ
variables fs = map (λ f. f.variable) fs

abbrev fact_at : List Fact → ℕ → Fact
fact_at fs i = get_or fs i (record { variable = 0; value = 0 })

-- one turn of a loop over facts, at the kept variable x that the fact speaks of
module _ (axes : List Axis) (scaled : axis_coefficients axes ≡ scales (axis_sizes axes)) (fs : List Fact) (i : ℕ) (within : i < length fs) (v : ℕ) (x : Axis) (speaks : v ≡ (fact_at fs i).variable) (l : v < length axes) (is : x ≡ get_or axes v x) where
  -- a fact is written: its digit is replaced in the rank k
  module _ (k d y : ℕ) (low : k < product (axis_sizes axes)) (valued : (fact_at fs i).value < get_or (axis_sizes axes) (fact_at fs i).variable 0) (digits : d ≡ digit (axis_sizes axes) v k) where
    taken : d * x.coefficient ≡ digit (axis_sizes axes) v k * coefficient (axis_sizes axes) v
    taken = ap (λ n. n * x.coefficient) digits ∙ ap (λ n. digit (axis_sizes axes) v k * n) (coefficient_is axes v x l is scaled)

    there : (z : ℕ) → z ≡ (fact_at fs i).value → Valued (axis_sizes axes) v z
    there z e = (omega (arith, l, length_sizes axes), omega (arith, e, valued, ap (λ w. get_or (axis_sizes axes) w 0) speaks))

    pub taken_fits : d * x.coefficient ≤ k
    taken_fits = omega (arith, taken, digit_fits (axis_sizes axes) (axes_positive axes) k v (fact_at fs i).value low (there (fact_at fs i).value refl))

    changed : k - d * x.coefficient + y * x.coefficient ≡ k - digit (axis_sizes axes) v k * coefficient (axis_sizes axes) v + y * coefficient (axis_sizes axes) v
    changed = omega (arith, taken, ap (λ n. y * n) (coefficient_is axes v x l is scaled))

    pub changed_low : y ≡ (fact_at fs i).value → k - d * x.coefficient + y * x.coefficient < product (axis_sizes axes)
    changed_low e = omega (arith, changed, replaced_low (axis_sizes axes) (axes_positive axes) k v y low (there y e))

    pub changed_state : y ≡ (fact_at fs i).value → outcome (drop (i + 1) fs) (unrank (axis_sizes axes) (k - d * x.coefficient + y * x.coefficient)) ≡ outcome (drop i fs) (unrank (axis_sizes axes) k)
    changed_state e =
        let s = unrank (axis_sizes axes) k in
        ap (outcome (drop (i + 1) fs)) (ap (unrank (axis_sizes axes)) changed ∙ replaced_state (axis_sizes axes) (axes_positive axes) k v y low (there y e) ∙ ap (λ w. set s w y) speaks ∙ ap (set s (fact_at fs i).variable) e)
        ∙ sym (outcome_more fs s i (record { variable = 0; value = 0 }) within)

  size_spoken : (n : ℕ) → n ≡ x.size → n ≡ get_or (axis_sizes axes) (fact_at fs i).variable 0
  size_spoken n e = e ∙ size_is axes v x l is ∙ ap (λ w. get_or (axis_sizes axes) w 0) speaks

  -- one digit more
  pub offset_turn : (n m so_far rest all : ℕ) → n ≡ x.size → m ≡ x.size → so_far + offset (axis_sizes axes) (variables (drop i fs)) rest ≡ all → so_far + rest % n * x.coefficient + offset (axis_sizes axes) (variables (drop (i + 1) fs)) (rest / m) ≡ all
  offset_turn n m so_far rest all e f inv =
      let w = (fact_at fs i).variable in
      let place = coefficient_is axes v x l is scaled ∙ ap (coefficient (axis_sizes axes)) speaks in
      let here = ap (λ z. rest % z * x.coefficient) (size_spoken n e) ∙ ap (λ c. rest % get_or (axis_sizes axes) w 0 * c) place in
      let later = ap (λ z. offset (axis_sizes axes) (variables (drop (i + 1) fs)) (rest / z)) (size_spoken m f) in
      let next = at_drop_more (λ gs. offset (axis_sizes axes) (variables gs) rest) fs i (record { variable = 0; value = 0 }) within in
      omega (arith, here, later, inv, next)

first : (axes : List Axis) (n : ℕ) → n < length axes → Axis
first [] n l = absurd (omega arith)
first (a ∷ axes) n l = a

-- the digits of a whole rank, put at their places
module _ (axes : List Axis) (scaled : axis_coefficients axes ≡ scales (axis_sizes axes)) (k : ℕ) where
  abbrev pub part : Axis → ℕ
  part a = k / a.whole_coefficient % a.size * a.coefficient

  abbrev digit_at : ℕ → ℕ
  digit_at v = k / get_or (axis_places axes) v 0 % get_or (axis_sizes axes) v 0

  part_at : (v : ℕ) (d : Axis) → v < length axes → part (get_or axes v d) ≡ digit_at v * coefficient (axis_sizes axes) v
  part_at v d l =
      ap (λ n. k / n % (get_or axes v d).size * (get_or axes v d).coefficient) (place_at axes v d l)
      ∙ ap (λ n. k / get_or (axis_places axes) v 0 % n * (get_or axes v d).coefficient) (size_at axes v d l)
      ∙ ap (λ n. digit_at v * n) (coefficient_at axes v d l scaled)

  parts_so_far : (n : ℕ) → n ≤ length axes → sum_by part (take n axes) ≡ Ranks.sum (λ v. digit_at v * coefficient (axis_sizes axes) v) n
  parts_so_far zero l = refl
  parts_so_far (suc n) l =
      let inside : n < length axes = omega arith in
      let d = first axes n inside in
      let more = sum_by_more part axes n d inside in
      omega (arith, more, ap (λ i. sum_by part (take i axes)) (add-one n), part_at n d inside, parts_so_far n (omega arith))

  low_so_far : (n : ℕ) → n ≤ length axes → Ranks.sum (λ v. digit_at v * coefficient (axis_sizes axes) v) n < coefficient (axis_sizes axes) n
  low_so_far zero l = omega arith
  low_so_far (suc n) l =
      let inside : n < length (axis_sizes axes) = omega (arith, length_sizes axes) in
      let z = get_or (axis_sizes axes) n 0 in
      let big : 0 < z = All-get_or (λ z. 0 < z) (axis_sizes axes) n 0 inside (axes_positive axes) in
      let below : digit_at n < z = mod-lt (k / get_or (axis_places axes) n 0) big in
      omega (arith, next_low (Ranks.sum (λ v. digit_at v * coefficient (axis_sizes axes) v) n) (coefficient (axis_sizes axes) n) (digit_at n) z (low_so_far n (omega arith)) below, coefficient_more (axis_sizes axes) n inside, ap (coefficient (axis_sizes axes)) (add-one n))

  whole : sum_by part (take (length axes) axes) ≡ sum_by part axes
  whole = ap (sum_by part) (take_all (length axes) axes (omega arith))

  pub parts_are : sum_by part axes ≡ folded (axis_places axes) (axis_sizes axes) k
  parts_are = sym whole ∙ parts_so_far (length axes) (omega arith) ∙ ap (Ranks.sum (λ v. digit_at v * coefficient (axis_sizes axes) v)) (sym (length_sizes axes))

  pub parts_low : sum_by part axes < product (axis_sizes axes)
  parts_low = omega (arith, whole, parts_so_far (length axes) (omega arith), low_so_far (length axes) (omega arith), coefficient_all (axis_sizes axes) (length axes) (omega (arith, length_sizes axes)))
