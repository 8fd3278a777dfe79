-- The digits of a rank: a state's values, read from its rank, and what becomes of the rank where one is written.
use Rattle.std.proofs.Common.{◌≡◌, ℕ, zero, suc, ◌+◌, ◌-◌, ◌*◌, ◌/◌, ◌%◌, ◌<◌, ◌≤◌, List, [], ◌∷◌, length, get_or, take, set, sym, ap, ◌∙◌, mul-le-mul_right, mod-eq_of_lt, mul_assoc, mul-le-mul_left, one-mul, mul-one, mul-add, div-mul-le_self, div-one, mul_left_comm, add-one, arith}
use native.Mathlib.Nat.{mod-le, add-mul-div_left, add-mul-mod_self_left, div-eq_of_lt, div-div-eq-div-mul}
use Rattle.std.specs.List.{AllByRecursion}
use Rattle.std.proofs.ByRecursion.{All-take}
use Rattle.std.proofs.lemmas.List.{take_all}
use Rattle.sas.specs.Model.{Valued, product}
use Rattle.sas.specs.States.{State}
use Rattle.sas.specs.Ranks.{coefficient, rank}
use Rattle.sas.proofs.Horner.{horner, rank_horner, horner_below}
use Rattle.sas.proofs.Outcomes.{state_set}
use Rattle.sas.proofs.Products.{product_pos}
use Rattle.sas.proofs.Unranks.{unrank, length_unrank, unrank_in, rank_of_unrank, unrank_rank}

pub coefficient_pos : (sizes : List ℕ) (v : ℕ) → AllByRecursion (λ z. 0 < z) sizes → 0 < coefficient sizes v
coefficient_pos sizes v pos = product_pos (take v sizes) (All-take (λ z. 0 < z) v sizes pos)

pub coefficient_below : (sizes : List ℕ) (v : ℕ) → AllByRecursion (λ z. 0 < z) sizes → coefficient sizes v ≤ product sizes
coefficient_below sizes zero pos = product_pos sizes pos
coefficient_below [] (suc v) pos = omega arith
coefficient_below (z ∷ zs) (suc v) pos = mul-le-mul_left z (coefficient_below zs v pos.1)

coefficient_next : (sizes : List ℕ) (v : ℕ) → v < length sizes → coefficient sizes (suc v) ≡ coefficient sizes v * get_or sizes v 0
coefficient_next [] v l = absurd (omega arith)
coefficient_next (z ∷ zs) zero l = mul-one z ∙ sym (one-mul z)
coefficient_next (z ∷ zs) (suc v) l = ap (λ n. z * n) (coefficient_next zs v (omega arith)) ∙ sym (mul_assoc z (coefficient zs v) (get_or zs v 0))

pub coefficient_more : (sizes : List ℕ) (v : ℕ) → v < length sizes → coefficient sizes (v + 1) ≡ coefficient sizes v * get_or sizes v 0
coefficient_more sizes v l = rw add-one (coefficient_next sizes v l)

pub coefficient_all : (sizes : List ℕ) (v : ℕ) → length sizes ≤ v → coefficient sizes v ≡ product sizes
coefficient_all sizes v l = ap product (take_all v sizes l)

horner_set : (sizes s : List ℕ) (v x : ℕ) → v < length sizes → length s ≡ length sizes → horner sizes (set s v x) + get_or s v 0 * coefficient sizes v ≡ horner sizes s + x * coefficient sizes v
horner_set [] s v x l e = absurd (omega arith)
horner_set (z ∷ zs) [] v x l e = absurd (omega arith)
horner_set (z ∷ zs) (y ∷ ys) zero x l e = omega (arith, mul-one x, mul-one y)
horner_set (z ∷ zs) (y ∷ ys) (suc v) x l e =
    let c = coefficient zs v in
    let g = get_or ys v 0 in
    let new = horner zs (set ys v x) in
    let old = horner zs ys in
    let both : z * (new + g * c) ≡ z * (old + x * c) = ap (λ n. z * n) (horner_set zs ys v x (omega arith) (omega arith)) in
    omega (arith, both, mul-add z new (g * c), mul-add z old (x * c), mul_left_comm g z c, mul_left_comm x z c)

-- where one value is written
pub rank_set : (sizes s : List ℕ) (v x : ℕ) → v < length sizes → length s ≡ length sizes → rank sizes (set s v x) + get_or s v 0 * coefficient sizes v ≡ rank sizes s + x * coefficient sizes v
rank_set sizes s v x l e = omega (arith, rank_horner sizes (set s v x), rank_horner sizes s, horner_set sizes s v x l e)

horner_digit : (sizes s : List ℕ) → State sizes s → (v : ℕ) → v < length sizes → get_or s v 0 ≡ horner sizes s / coefficient sizes v % get_or sizes v 0
horner_digit [] s h v l = absurd (omega arith)
horner_digit (z ∷ zs) [] h v l = absurd (omega (arith, h.0))
horner_digit (z ∷ zs) (x ∷ xs) h zero l =
    sym (ap (λ n. n % z) (div-one (x + z * horner zs xs)) ∙ add-mul-mod_self_left x z (horner zs xs) ∙ mod-eq_of_lt (h.1 0 l))
horner_digit (z ∷ zs) (x ∷ xs) h (suc v) l =
    let r = horner zs xs in
    let low : x < z = h.1 0 (omega arith) in
    let pos : 0 < z = omega arith in
    let d0 : x / z ≡ 0 = div-eq_of_lt low in
    let d1 = add-mul-div_left x r pos in
    let d : (x + z * r) / z ≡ r = omega (arith, d0, d1) in
    let c = coefficient zs v in
    let turned : (x + z * r) / (z * c) ≡ r / c = sym (div-div-eq-div-mul (x + z * r) z c) ∙ ap (λ n. n / c) d in
    horner_digit zs xs (omega (arith, h.0), λ w within. h.1 (suc w) (omega arith)) v (omega arith) ∙ ap (λ n. n % get_or zs v 0) (sym turned)

-- each value of a state is a digit of its rank
pub digit_is : (sizes s : List ℕ) → State sizes s → (v : ℕ) → v < length sizes → get_or s v 0 ≡ rank sizes s / coefficient sizes v % get_or sizes v 0
digit_is sizes s h v l = horner_digit sizes s h v l ∙ ap (λ n. n / coefficient sizes v % get_or sizes v 0) (sym (rank_horner sizes s))

-- a digit that is replaced in the rank k
module _ (sizes : List ℕ) (pos : AllByRecursion (λ z. 0 < z) sizes) (k v x : ℕ) (low : k < product sizes) (valued : Valued sizes v x) where
  pub digit_fits : k / coefficient sizes v % get_or sizes v 0 * coefficient sizes v ≤ k
  digit_fits =
      let c = coefficient sizes v in
      omega (arith, mul-le-mul_right c (mod-le (k / c) (get_or sizes v 0)), div-mul-le_self k c)

  replaced : k - k / coefficient sizes v % get_or sizes v 0 * coefficient sizes v + x * coefficient sizes v ≡ rank sizes (set (unrank sizes k) v x)
  replaced =
      let c = coefficient sizes v in
      let s = unrank sizes k in
      let d = k / c % get_or sizes v 0 in
      let at : rank sizes s ≡ k = rank_of_unrank sizes pos k low in
      let here : get_or s v 0 * c ≡ d * c = ap (λ n. n * c) (digit_is sizes s (unrank_in sizes pos k) v valued.0 ∙ ap (λ n. n / c % get_or sizes v 0) at) in
      let both = rank_set sizes s v x valued.0 (length_unrank sizes k) in
      omega (arith, digit_fits)

  pub replaced_low : k - k / coefficient sizes v % get_or sizes v 0 * coefficient sizes v + x * coefficient sizes v < product sizes
  replaced_low = omega (arith, replaced, rank_horner sizes (set (unrank sizes k) v x), horner_below sizes (set (unrank sizes k) v x) (state_set sizes (unrank sizes k) v x (unrank_in sizes pos k) valued))

  pub replaced_state : unrank sizes (k - k / coefficient sizes v % get_or sizes v 0 * coefficient sizes v + x * coefficient sizes v) ≡ set (unrank sizes k) v x
  replaced_state = ap (unrank sizes) replaced ∙ unrank_rank sizes (set (unrank sizes k) v x) (state_set sizes (unrank sizes k) v x (unrank_in sizes pos k) valued)
