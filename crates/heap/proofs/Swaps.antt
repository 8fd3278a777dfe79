-- The order of ranks and their places.
use Rattle.std.proofs.Common.{◌≡◌, ℕ, ◌<◌, List, length, get_or, sym, refl, ap, ◌∙◌, arith}
use Rattle.heap.specs.Rows.{Inverse}

-- where each number below the length stands at its own place
pub inverse_same : (xs : List ℕ) → ((k : ℕ) → k < length xs → get_or xs k 0 ≡ k) → Inverse xs xs
inverse_same xs at = record {
  same = refl;
  small = λ k h. omega (arith, at k h);
  there = λ k h. ap (λ x. get_or xs x 0) (at k h) ∙ at k h;
  within = λ k h. omega (arith, at k h);
  back = λ k h. ap (λ x. get_or xs x 0) (at k h) ∙ at k h;
}

-- equal numbers stand at one place
pub placed_once : (order spots : List ℕ) → Inverse order spots → (k l : ℕ) → k < length order → l < length order → get_or order k 0 ≡ get_or order l 0 → k ≡ l
placed_once order spots inv k l hk hl e = sym (inv.there k hk) ∙ ap (λ r. get_or spots r 0) e ∙ inv.there l hl
