-- Which ranks wait, and where the least key stands.
use Rattle.std.proofs.Common.{◌≡◌, ℕ, ◌+◌, ◌-◌, ◌<◌, ◌≤◌, Bool, true, false, ◌≢◌, ◌⊎◌, List, length, get_or, set, is_some, Some, None, Option, sym, refl, ap, ◌∙◌, arith, rules, get_or-set_other, get_or-set_same}
use native.Mathlib.Decide.{dec_lt}
use Rattle.std.specs.List.{SwappedAt}
use Rattle.lists.proofs.Nones.{some_within}
use Rattle.heap.specs.Rows.{at_most, before, up, Inverse, Sound, Heaped, UpTo, DownTo}
use Rattle.heap.proofs.Swaps.{placed_once}
use Rattle.heap.proofs.Heaps.{root, lowered_up}

-- with no key, no rank waits
pub sound_none : {K : Type 0} (keys : List (Option K)) (order : List ℕ) → length keys ≡ length order → ((q : ℕ) → get_or keys q None ≡ None) → Sound keys order 0
sound_none keys order long none = record { long = long; few = omega arith; held = λ k l. absurd (omega arith); free = λ k past l. ap is_some (none (get_or order k 0)) }

module _ {K : Type 0} (keys : List (Option K)) (order : List ℕ) (count : ℕ) (s : Sound keys order count) where
  -- an exchange among the ranks that wait
  pub sound_exchanged : (order' : List ℕ) (i j : ℕ) → i < count → j < count → length order' ≡ length order → SwappedAt order order' i j → Sound keys order' count
  sound_exchanged order' i j hi hj len swap = search rules

  module _ (spots : List ℕ) (inv : Inverse order spots) where
    -- a rank that waits stands in front
    in_front : (q : ℕ) (k : K) → get_or keys q None ≡ Some k → (get_or spots q 0 < count) × (get_or order (get_or spots q 0) 0 ≡ q)
    in_front q k e =
        let low : q < length order = omega (arith, some_within keys q k e, s.long) in
        let back = inv.back q low in (
          elim (dec_lt (get_or spots q 0) count) [
            | yes l ↦ l
            | no past ↦ let free = s.free (get_or spots q 0) (omega arith) (inv.within q low) in cc
          ],
          back,
        )

    -- where the first rank has no key, none has
    none_from : get_or keys (get_or order 0 0) None ≡ None → (q : ℕ) (o : Option K) → get_or keys q None ≡ o → get_or keys q None ≡ None
    none_from first q None e = e
    none_from first q (Some k) e = let f = in_front q k e in let held = s.held 0 (omega arith) in cc

    pub none_waits : get_or keys (get_or order 0 0) None ≡ None → (q : ℕ) → get_or keys q None ≡ None
    none_waits first q = none_from first q (get_or keys q None) refl

    -- the other ranks keep their keys
    elsewhere : (place rank : ℕ) (o : Option K) → place < length order → get_or order place 0 ≡ rank → (k : ℕ) → k < length order → k ≢ place → get_or (set keys rank o) (get_or order k 0) None ≡ get_or keys (get_or order k 0) None
    elsewhere place rank o low at k h ne = get_or-set_other keys rank (get_or order k 0) o None (λ e. ne (placed_once order spots inv k place h low (e ∙ sym at)))

    module _ (leq : K → K → Bool) (total : (x y : K) → (leq x y ≡ true) ⊎ (leq y x ≡ true)) (trans : (x y z : K) → leq x y ≡ true → leq y z ≡ true → leq x z ≡ true) (heaped : Heaped (before leq keys) order count) where
      pub least_first : (key : K) → get_or keys (get_or order 0 0) None ≡ Some key → (q : ℕ) (k : K) → get_or keys q None ≡ Some k → leq key k ≡ true
      least_first key first q k e =
          let f = in_front q k e in
          let here : get_or keys (get_or order (get_or spots q 0) 0) None ≡ Some k = cc in
          rw (first, here) at (root leq total trans keys order count heaped (get_or spots q 0) f.0)

      -- a lower key of a rank that waits
      pub lowered : (place rank : ℕ) (key : K) → place < length order → get_or order place 0 ≡ rank → at_most leq (get_or keys rank None) (Some key) ≡ false → UpTo (before leq (set keys rank (Some key))) order count place
      lowered place rank key low at more =
          let small = inv.small place low in
          lowered_up leq total trans keys order count (set keys rank (Some key)) place (Some key)
          (ap (λ r. get_or (set keys rank (Some key)) r None) at ∙ get_or-set_same keys rank (Some key) None (omega (arith, s.long)))
          (cc)
          (λ k l ne. elsewhere place rank (Some key) low at k (omega (arith, s.few)) ne)
          heaped

      -- the key of the rank that comes to the end
      pub added : (order' : List ℕ) (place rank : ℕ) (key : K) → place < length order → get_or order place 0 ≡ rank → get_or keys rank None ≡ None → SwappedAt order order' place count → UpTo (before leq (set keys rank (Some key))) order' (count + 1) count
      added order' place rank key low at none s' =
          let keys' = set keys rank (Some key) in
          let past : count ≤ place = elim (dec_lt place count) [ yes l ↦ let held = s.held place l in cc | no p ↦ omega arith ] in
          let same : (k : ℕ) → k < count → get_or keys' (get_or order' k 0) None ≡ get_or keys (get_or order k 0) None = λ k l.
          ap (λ r. get_or keys' r None) (s'.2 k 0 (λ e. omega arith) (λ e. omega arith)) ∙ elsewhere place rank (Some key) low at k (omega (arith, s.few)) (λ e. omega arith) in (
            (λ j p l ne. let here = same j (omega arith) in let top = same (up j) (omega arith) in let under = heaped j p (omega arith) in cc),
            (λ j p l e q. absurd (omega arith)),
          )

      -- the last rank in the place of the first
      pub removed : (order' : List ℕ) (rank : ℕ) → 0 < count → rank ≡ get_or order 0 0 → SwappedAt order order' 0 (count - 1) → DownTo (before leq (set keys rank None)) order' (count - 1) 0
      removed order' rank some at s' =
          let keys' = set keys rank None in
          let same : (k : ℕ) → k < count - 1 → k ≢ 0 → get_or keys' (get_or order' k 0) None ≡ get_or keys (get_or order k 0) None = λ k l ne.
          ap (λ r. get_or keys' r None) (s'.2 k 0 ne (λ e. omega arith)) ∙ elsewhere 0 rank None (omega (arith, s.few)) (sym at) k (omega (arith, s.few)) ne in (
            (λ j p l ne. let here = same j l (λ e. omega arith) in let top = same (up j) (omega arith) ne in let under = heaped j p (omega arith) in cc),
            (λ j p l e q. absurd (omega arith)),
          )
