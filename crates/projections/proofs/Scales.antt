-- The coefficients of variables, one by one.
use Rattle.std.proofs.Common.{◌≡◌, ℕ, zero, suc, ◌*◌, ◌<◌, ◌≤◌, List, [], ◌∷◌, ◌++◌, length, get_or, sym, refl, ap, ◌∙◌, mul_assoc, one-mul, mul-one, arith}
use Rattle.std.specs.List.{AllByRecursion}
use Rattle.std.proofs.ByRecursion.{All-weaker}
use Rattle.sas.specs.Model.{product}
use Rattle.sas.specs.Ranks.{coefficient}
use Rattle.projections.specs.Parts.{scales, scales_from}

pub sizes_positive : (sizes : List ℕ) → AllByRecursion (λ z. (2 ≤ z) × (z ≤ 16)) sizes → AllByRecursion (λ z. 0 < z) sizes
sizes_positive sizes h = All-weaker (λ z. (2 ≤ z) × (z ≤ 16)) (λ z. 0 < z) (λ z l. omega (arith, l.0)) sizes h

length_scales : (c : ℕ) (zs : List ℕ) → length (scales_from c zs) ≡ length zs
length_scales c [] = refl
length_scales c (z ∷ zs) = ap suc (length_scales (c * z) zs)

scale_from : (c : ℕ) (zs : List ℕ) (v : ℕ) → v < length zs → get_or (scales_from c zs) v 0 ≡ c * coefficient zs v
scale_from c [] v l = absurd (omega arith)
scale_from c (z ∷ zs) zero l = sym (mul-one c)
scale_from c (z ∷ zs) (suc v) l = scale_from (c * z) zs v (omega arith) ∙ mul_assoc c z (coefficient zs v)

pub scale_at : (zs : List ℕ) (v : ℕ) → v < length zs → get_or (scales zs) v 0 ≡ coefficient zs v
scale_at zs v l = scale_from 1 zs v l ∙ one-mul (coefficient zs v)

pub scales_long : (zs : List ℕ) → length (scales zs) ≡ length zs
scales_long zs = length_scales 1 zs

-- one size more
pub product_push : (zs : List ℕ) (z : ℕ) → product (zs ++ z ∷ []) ≡ product zs * z
product_push [] z = mul-one z ∙ sym (one-mul z)
product_push (y ∷ zs) z = ap (λ n. y * n) (product_push zs z) ∙ sym (mul_assoc y (product zs) z)

scales_from_push : (c : ℕ) (zs : List ℕ) (z : ℕ) → scales_from c (zs ++ z ∷ []) ≡ scales_from c zs ++ (c * product zs) ∷ []
scales_from_push c [] z = ap (λ n. n ∷ []) (sym (mul-one c))
scales_from_push c (y ∷ zs) z = ap (λ ks. c ∷ ks) (scales_from_push (c * y) zs z ∙ ap (λ n. scales_from (c * y) zs ++ n ∷ []) (mul_assoc c y (product zs)))

pub scales_push : (zs : List ℕ) (z : ℕ) → scales (zs ++ z ∷ []) ≡ scales zs ++ product zs ∷ []
scales_push zs z = scales_from_push 1 zs z ∙ ap (λ n. scales zs ++ n ∷ []) (one-mul (product zs))
