-- Entries whose first ones were filled with the mark.
use Rattle.std.proofs.Common.{◌≡◌, ℕ, ◌-◌, ◌<◌, ◌≤◌, List, ◌++◌, length, get_or, drop, take, ap, ◌∙◌, arith}
use Rattle.std.proofs.Math.ListN.{replicate}
use Rattle.std.proofs.lemmas.List.{get_or-replicate, length-replicate, length-take-le, length-drop, length-append, get_or_append_left, get_or-append_right, get_or-drop}
use Rattle.tables.specs.Costs.{mark}

module _ (m : ℕ) (entries marks : List ℕ) (room : m ≤ length entries) (filled : marks ≡ replicate (length (take m entries)) mark) where
  many : length marks ≡ m
  many = ap length filled ∙ length-replicate _ _ ∙ length-take-le m entries room

  pub wiped_length : length (marks ++ drop m entries) ≡ length entries
  wiped_length = omega (arith, length-append marks (drop m entries), length-drop m entries, many)

  pub wiped_low : (k : ℕ) → k < m → get_or (marks ++ drop m entries) k 0 ≡ mark
  wiped_low k l =
      get_or_append_left marks (drop m entries) 0 k (omega (arith, many)) ∙ ap (λ xs. get_or xs k 0) filled ∙ get_or-replicate _ k mark 0 (omega (arith, length-take-le m entries room))

  pub wiped_rest : (k : ℕ) → m ≤ k → get_or (marks ++ drop m entries) k 0 ≡ get_or entries k 0
  wiped_rest k l = get_or-append_right marks (drop m entries) m k 0 many l ∙ get_or-drop m entries (k - m) 0 ∙ ap (λ i. get_or entries i 0) (omega arith)
