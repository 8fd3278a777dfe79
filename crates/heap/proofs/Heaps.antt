-- What an exchange of two places, or a lower key, does to a heap.
use Rattle.std.proofs.Common.{◌≡◌, ℕ, zero, suc, ◌<◌, Bool, true, false, ◌≢◌, ◌⊎◌, List, get_or, Some, None, Option, refl, ap, ◌∙◌, inl, inr, arith}
use Rattle.std.proofs.lemmas.Bool.{cases_eq}
use Rattle.std.specs.List.{SwappedAt}
use Rattle.heap.specs.Rows.{at_most, before, up, Heaped, UpTo, DownTo}

-- ranks are ordered by their keys, with no key before any
module _ {K : Type 0} (leq : K → K → Bool) (total : (x y : K) → (leq x y ≡ true) ⊎ (leq y x ≡ true)) (trans : (x y z : K) → leq x y ≡ true → leq y z ≡ true → leq x z ≡ true) where
  some_total : (x y : Option K) → (at_most leq x y ≡ true) ⊎ (at_most leq y x ≡ true)
  some_total None y = inl refl
  some_total (Some x) None = inr refl
  some_total (Some x) (Some y) = total x y

  some_trans : (x y z : Option K) → at_most leq x y ≡ true → at_most leq y z ≡ true → at_most leq x z ≡ true
  some_trans None y z p q = refl
  some_trans (Some x) None z p q = cc
  some_trans (Some x) (Some y) None p q = cc
  some_trans (Some x) (Some y) (Some z) p q = trans x y z p q

  turned : (x y : Option K) → false ≡ at_most leq x y → at_most leq y x ≡ true
  turned x y f = elim (some_total x y) [ inl t ↦ cc | inr t ↦ t ]

  module _ (keys : List (Option K)) (xs : List ℕ) (n : ℕ) where
    abbrev le : ℕ → ℕ → Bool
    le = before leq keys

    abbrev at : ℕ → ℕ
    at k = get_or xs k 0

    abbrev key_at : ℕ → Option K
    key_at k = get_or keys (get_or xs k 0) None

    pub up_step : (ys : List ℕ) (i : ℕ) → i < n → 0 < i → SwappedAt xs ys (up i) i → false ≡ le (at (up i)) (at i) → UpTo le xs n i → UpTo le ys n (up i)
    up_step ys i here pos s less h =
        let first = s.0 0 in
        let last = s.1 0 in
        let ge = turned (key_at (up i)) (key_at i) less in (
          (λ j p l ne. elim (cases_eq j i) [
            | inl e ↦ cc
            | inr nj ↦
                let same = s.2 j 0 ne nj in
                let under = h.0 j p l nj in
                elim (cases_eq (up j) i) [
                  | inl e ↦ let lower = h.1 j p l e pos in cc
                  | inr n1 ↦ elim (cases_eq (up j) (up i)) [
                    | inl e ↦ let lower = some_trans (key_at i) (key_at (up i)) (key_at j) ge (cc) in cc
                    | inr n2 ↦ let top = s.2 (up j) 0 n2 n1 in cc
                  ]
                ]
          ]),
          (λ j p l e q.
              let above = h.0 (up i) q (omega arith) (λ x. omega arith) in
              let top = s.2 (up (up i)) 0 (λ x. omega arith) (λ x. omega arith) in
              elim (cases_eq j i) [
                | inl x ↦ cc
                | inr nj ↦
                    let same = s.2 j 0 (λ x. omega arith) nj in
                    let under = h.0 j p l nj in
                    let lower = some_trans (key_at (up (up i))) (key_at (up i)) (key_at j) above (cc) in
                    cc
              ]),
        )

    pub down_step : (ys : List ℕ) (i c : ℕ) → 0 < c → c < n → up c ≡ i → SwappedAt xs ys i c → ((j : ℕ) → 0 < j → j < n → up j ≡ i → le (at c) (at j) ≡ true) → false ≡ le (at i) (at c) → DownTo le xs n i → DownTo le ys n c
    down_step ys i c pos low over s least less h =
        let first = s.0 0 in
        let last = s.1 0 in
        let ge = turned (key_at i) (key_at c) less in (
          (λ j p l ne. elim (cases_eq (up j) i) [
            | inl e ↦ elim (cases_eq j c) [
              | inl x ↦ cc
              | inr nj ↦ let same = s.2 j 0 (λ x. omega arith) nj in let lower = least j p l e in cc
            ]
            | inr nu ↦
                let top = s.2 (up j) 0 nu ne in
                let under = h.0 j p l nu in
                elim (cases_eq j i) [
                  | inl x ↦ let lower = h.1 c pos low over (omega arith) in cc
                  | inr nj ↦ let same = s.2 j 0 nj (λ x. nu (ap up x ∙ over)) in cc
                ]
          ]),
          (λ j p l e q.
              let same = s.2 j 0 (λ x. omega arith) (λ x. omega arith) in
              let under = h.0 j p l (λ x. omega arith) in
              cc),
        )

    -- the key of the rank at one place is set to a lower one
    pub lowered_up : (keys' : List (Option K)) (i : ℕ) (key : Option K) → get_or keys' (at i) None ≡ key → false ≡ at_most leq (key_at i) key → ((k : ℕ) → k < n → k ≢ i → get_or keys' (at k) None ≡ key_at k) → Heaped le xs n → UpTo (before leq keys') xs n i
    lowered_up keys' i key here more same h =
        let less = turned (key_at i) key more in (
          (λ j p l ne.
              let here_j = same j l ne in
              let under = h j p l in
              elim (cases_eq (up j) i) [
                | inl e ↦ let lower = some_trans key (key_at i) (key_at j) less (cc) in cc
                | inr nu ↦ let top = same (up j) (omega arith) nu in cc
              ]),
          (λ j p l e q.
              let here_j = same j l (λ x. omega arith) in
              let top = same (up i) (omega arith) (λ x. omega arith) in
              let under = h j p l in
              let lower = some_trans (key_at (up i)) (key_at i) (key_at j) (h i q (omega arith)) (cc) in
              cc),
        )

    -- none is before the first
    root_to : Heaped le xs n → (m j : ℕ) → j < m → j < n → le (at 0) (at j) ≡ true
    root_to h zero j b l = absurd (omega arith)
    root_to h (suc m) j b l = elim (cases_eq j 0) [
      | inl e ↦ elim (some_total (key_at 0) (key_at 0)) [ inl t ↦ cc | inr t ↦ cc ]
      | inr ne ↦ some_trans (key_at 0) (key_at (up j)) (key_at j) (root_to h m (up j) (omega arith) (omega arith)) (h j (omega arith) l)
    ]

    pub root : Heaped le xs n → (j : ℕ) → j < n → le (at 0) (at j) ≡ true
    root h j l = root_to h (suc j) j (omega arith) l
