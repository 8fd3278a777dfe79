-- Pairs of different ranks below a bound are fewer than the bound where one more rank below it is not among them.
use Rattle.std.proofs.Common.{◌≡◌, ℕ, ◌<◌, true, ◌≢◌, List, ◌∷◌, map, length, sym, ◌∙◌, arith, subst}
use Rattle.std.proofs.Math.Dec.{eqb}
use Rattle.std.specs.List.{All, AllPairs, list_any}
use Rattle.std.proofs.lemmas.Bool.{eqb-true}
use Rattle.std.proofs.lemmas.Bool.Decides.{Decides-eqb}
use Rattle.std.proofs.lemmas.List.{get_or-map, length-map}
use Rattle.std.proofs.lemmas.List.Elements.{All-cons, All-map}
use Rattle.std.proofs.lemmas.List.Folds.{Any-from_list_any}
use Rattle.std.proofs.lemmas.List.Kept.{AllPairs-cons}
use Rattle.std.proofs.lemmas.Map.Made.{IsDistinct-from_AllPairs}
use Rattle.std.proofs.lemmas.Map.Steps.{length-le_from_distinct_below}
use Rattle.drains.specs.Drained.{Once}

module _ {K : Type 0} (out : List (ℕ × K)) (n r : ℕ) (k : K) (once : Once out) (low : All (λ p. p.0 < n) out) (here : r < n) (other : All (λ p. r ≢ p.0) out) where
  abbrev ranks : List ℕ
  ranks = map (λ p. p.0) out

  apart : AllPairs (λ x y. x ≢ y) ranks
  apart i j d l h e =
      let size = length-map out (λ p. p.0) in
      once i j (r, k) l (omega (arith, size)) (sym (get_or-map (λ p. p.0) out i (r, k) d (omega (arith, size))) ∙ e ∙ get_or-map (λ p. p.0) out j (r, k) d (omega (arith, size)))

  below : (q : ℕ) → list_any (eqb q) (r ∷ ranks) ≡ true → q < n
  below q e =
      let has = Any-from_list_any (eqb q) (r ∷ ranks) e in
      let all = All-cons (λ x. x < n) r ranks here (All-map (λ x. x < n) (λ p. p.0) out low) in
      subst (λ x. x < n) (has.3 ∙ sym (eqb-true _ _ has.4)) (all has.0 has.1 has.2)

  pub room : length out < n
  room =
      let distinct = IsDistinct-from_AllPairs Decides-eqb (r ∷ ranks) (AllPairs-cons (λ x y. x ≢ y) r ranks (All-map (λ x. r ≢ x) (λ p. p.0) out other) apart) in
      omega (arith, length-le_from_distinct_below (r ∷ ranks) n distinct below, length-map out (λ p. p.0))
