-- A rank is a number in Horner's form, computed one variable at a time.
use Rattle.std.proofs.Common.{◌≡◌, ℕ, zero, suc, ◌+◌, ◌*◌, ◌<◌, ◌≤◌, List, [], ◌∷◌, length, get_or, sym, refl, ap, ◌∙◌, mul_assoc, mul_comm, mul-le-mul_left, mul-zero, zero-mul, mul-one, mul-add, arith}
use Rattle.sas.specs.Model.{product}
use Rattle.sas.specs.States.{State}
use Rattle.sas.specs.Ranks.{sum, coefficient, rank}

abbrev pub horner : List ℕ → List ℕ → ℕ
horner [] s = 0
horner (z ∷ zs) [] = 0
horner (z ∷ zs) (x ∷ xs) = x + z * horner zs xs

sum_first : (f : ℕ → ℕ) (n : ℕ) → sum f (suc n) ≡ f 0 + sum (λ v. f (suc v)) n
sum_first f zero = omega arith
sum_first f (suc n) = omega (arith, sum_first f n)

sum_times : (z : ℕ) (f g : ℕ → ℕ) (n : ℕ) → ((v : ℕ) → f v ≡ z * g v) → sum f n ≡ z * sum g n
sum_times z f g zero h = sym (mul-zero z)
sum_times z f g (suc n) h = omega (arith, sum_times z f g n h, h n, mul-add z (sum g n) (g n))

sum_none : (f : ℕ → ℕ) (n : ℕ) → ((v : ℕ) → f v ≡ 0) → sum f n ≡ 0
sum_none f zero h = refl
sum_none f (suc n) h = omega (arith, sum_none f n h, h n)

summed : (sizes s : List ℕ) → sum (λ v. get_or s v 0 * coefficient sizes v) (length sizes) ≡ horner sizes s
summed [] s = refl
summed (z ∷ zs) [] = sum_none (λ v. 0 * coefficient (z ∷ zs) v) (suc (length zs)) (λ v. zero-mul (coefficient (z ∷ zs) v))
summed (z ∷ zs) (x ∷ xs) =
    let f : ℕ → ℕ = λ v. get_or (x ∷ xs) v 0 * coefficient (z ∷ zs) v in
    let g : ℕ → ℕ = λ v. get_or xs v 0 * coefficient zs v in
    let turned : (v : ℕ) → f (suc v) ≡ z * g v = λ v. sym (mul_assoc (get_or xs v 0) z (coefficient zs v)) ∙ ap (λ n. n * coefficient zs v) (mul_comm (get_or xs v 0) z) ∙ mul_assoc z (get_or xs v 0) (coefficient zs v) in
    sum_first f (length zs) ∙ ap (λ n. n + sum (λ v. f (suc v)) (length zs)) (mul-one x) ∙ ap (λ n. x + n) (sum_times z (λ v. f (suc v)) g (length zs) turned ∙ ap (λ n. z * n) (summed zs xs))

pub rank_horner : (sizes s : List ℕ) → rank sizes s ≡ horner sizes s
unfolding rank
rank_horner sizes s = summed sizes s

pub horner_below : (sizes s : List ℕ) → State sizes s → horner sizes s < product sizes
horner_below [] s h = omega arith
horner_below (z ∷ zs) [] h = absurd (omega (arith, h.0))
horner_below (z ∷ zs) (x ∷ xs) h =
    let rest = horner_below zs xs (omega (arith, h.0), λ v within. h.1 (suc v) (omega arith)) in
    let first : x < z = h.1 0 (omega arith) in
    let one : horner zs xs + 1 ≤ product zs = omega arith in
    omega (arith, mul-le-mul_left z one, mul-add z (horner zs xs) 1, mul-one z)
