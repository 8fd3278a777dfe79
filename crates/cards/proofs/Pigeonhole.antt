-- Of the numbers below n there are at most n with none twice.
use Rattle.std.proofs.Common.{◌≡◌, ℕ, zero, suc, ◌+◌, ◌<◌, ◌≤◌, Bool, ltb, List, [], ◌∷◌, length, filter, arith}
use Rattle.std.specs.List.{AllByRecursion}
use Rattle.std.proofs.ByRecursion.{all_kept_by, All-weaker, kept_by_passes}
use Rattle.std.proofs.lemmas.Bool.{cond_both, ltb-true, ltb-false}
use Rattle.sas.specs.Model.{Distinct}

distinct_kept : (test : ℕ → Bool) (xs : List ℕ) → Distinct xs → Distinct (filter test xs)
distinct_kept test [] d = tt
distinct_kept test (x ∷ xs) d =
    cond_both (test x) (x ∷ filter test xs) (filter test xs) Distinct
    (λ _. (all_kept_by test (λ y. x ≡ y → ⊥) xs d.0, distinct_kept test xs d.1))
    (λ _. distinct_kept test xs d.1)

abbrev below : ℕ → List ℕ → List ℕ
below n xs = filter (λ x. ltb x n) xs

-- where x is n, each of the rest is below n
none_left : (n : ℕ) (xs : List ℕ) → AllByRecursion (λ v. v < suc n) xs → AllByRecursion (λ y. n ≡ y → ⊥) xs → length xs ≤ length (below n xs)
none_left n [] h d = omega arith
none_left n (x ∷ xs) h d =
    cond_both (ltb x n) (x ∷ below n xs) (below n xs) (λ ys. suc (length xs) ≤ length ys)
    (λ _. omega (arith, none_left n xs h.1 d.1))
    (λ e. let z : x < suc n = h.0 in absurd (d.0 (omega (arith, ltb-false x n e))))

one_left : (n : ℕ) (xs : List ℕ) → AllByRecursion (λ v. v < suc n) xs → Distinct xs → length xs ≤ length (below n xs) + 1
one_left n [] h d = omega arith
one_left n (x ∷ xs) h d =
    cond_both (ltb x n) (x ∷ below n xs) (below n xs) (λ ys. suc (length xs) ≤ length ys + 1)
    (λ _. omega (arith, one_left n xs h.1 d.1))
    (λ e. let z : n ≡ x = omega (arith, h.0, ltb-false x n e) in omega (arith, none_left n xs h.1 (All-weaker (λ y. x ≡ y → ⊥) (λ y. n ≡ y → ⊥) (λ y k q. k (omega arith)) xs d.0)))

pub pigeonhole : (n : ℕ) (xs : List ℕ) → AllByRecursion (λ v. v < n) xs → Distinct xs → length xs ≤ n
pigeonhole zero [] h d = omega arith
pigeonhole zero (x ∷ xs) h d = absurd (omega (arith, h.0))
pigeonhole (suc n) xs h d =
    omega (arith, one_left n xs h d, pigeonhole n (below n xs) (All-weaker _ (λ v. v < n) (λ v e. ltb-true v n e) (below n xs) (kept_by_passes (λ x. ltb x n) xs)) (distinct_kept (λ x. ltb x n) xs d))
