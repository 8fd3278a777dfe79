-- The product of sizes is positive; each size is in its range.
use Rattle.std.proofs.Common.{◌≡◌, ℕ, ◌<◌, ◌≤◌, List, [], ◌∷◌, length, get_or, sym, subst, mul-pos, arith}
use Rattle.std.specs.List.{AllByRecursion}
use Rattle.std.proofs.ByRecursion.{All-get_or, All-weaker}
use Rattle.sas.specs.Model.{Model, Rules, product}

pub product_pos : (xs : List ℕ) → AllByRecursion (λ z. 0 < z) xs → 0 < product xs
product_pos [] h = omega arith
product_pos (x ∷ xs) h = mul-pos h.0 (product_pos xs h.1)

pub positive : (m : Model) → Rules m → AllByRecursion (λ z. 0 < z) m.sizes
positive m r = All-weaker (λ z. (2 ≤ z) × (z ≤ 16)) (λ z. 0 < z) (λ z h. omega (arith, h.0)) m.sizes r.sized

pub sized_at : (m : Model) → Rules m → (xs : List ℕ) → xs ≡ m.sizes → (i : ℕ) → i < length xs → (2 ≤ get_or xs i 0) × (get_or xs i 0 ≤ 16)
sized_at m r xs is i within = All-get_or (λ z. (2 ≤ z) × (z ≤ 16)) xs i 0 within (subst (AllByRecursion (λ z. (2 ≤ z) × (z ≤ 16))) (sym is) r.sized)
