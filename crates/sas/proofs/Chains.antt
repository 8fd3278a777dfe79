-- The products of chains: what `product` requires and gives.
use Rattle.std.proofs.Common.{◌≡◌, ℕ, ◌*◌, ◌^◌, ◌<◌, List, [], ◌∷◌, Option, fold, length, take, sym, ap, ◌∙◌, subst, mul_assoc, one-mul, mul-one, arith}
use mathlib.Core.List.{map-id}
use Rattle.std.specs.Bool.{⊤}
use Rattle.std.specs.Iterator.{Drains, Yields}
use Rattle.std.specs.Iterator.Runs.{EachRunFrom, YieldsRun}
use Rattle.std.specs.List.{AllByRecursion}
use Rattle.std.proofs.lemmas.Iterator.{YieldsList}
use Rattle.std.proofs.lemmas.Iterator.Adapters.{total_from_yields_List}
use Rattle.std.proofs.lemmas.Iterator.Consumers.{YieldsList-so_far}
use Rattle.sas.specs.Model.{product}
use Rattle.sas.proofs.Digits.{coefficient_below}

fold_product : (a : ℕ) (xs : List ℕ) → fold (λ b x. b * x) a xs ≡ a * product xs
fold_product a [] = sym (mul-one a)
fold_product a (x ∷ xs) = fold_product (a * x) xs ∙ mul_assoc a x (product xs)

factors : (xs : List ℕ) → fold (λ b x. b * x) 1 xs ≡ product xs
factors xs = fold_product 1 xs ∙ one-mul (product xs)

module _ {S : Type 0} {steps : S → Option ℕ → S → Type 0} (s : S) (all : List ℕ) (e : YieldsList steps (λ x. x) s all) where
  -- the product of a front of the factors is at most that of all
  pub product_fits : AllByRecursion (λ z. 0 < z) all → product all < 2 ^ 64 → EachRunFrom steps s (λ p. fold (λ a x. a * x) 1 p.items < 2 ^ 64)
  unfolding YieldsRun
  product_fits pos low = λ p _ at.
      let front : p.items ≡ take (length p.items) all = sym (map-id p.items) ∙ YieldsList-so_far e p.items p.gave.0.0 (subst (λ u. Yields steps u p.items p.gave.0.0) at p.gave.0.1) in
      omega (arith, factors p.items, ap product front, coefficient_below all (length p.items) pos)

  pub product_is : (r : ℕ) → ((xs : List ℕ) × (⊤ → Drains steps s xs) × (r ≡ fold (λ a x. a * x) 1 xs)) → r ≡ product all
  product_is r ran = total_from_yields_List (λ a x. a * x) 1 r ran e ∙ factors all
