-- When two lists of pairs have the same keys.
use Rattle.std.specs.Prelude.{◌≡◌, ℕ, ◌<◌, List, length, slice_index_or}

-- as many in both, and the same key at each place
pub record SameKeys {K : Type 0} (a b : List (ℕ × K)) : Type 0 where
  pub sized : length a ≡ length b
  pub equal : (d : ℕ × K) (i : ℕ) → i < length a → (slice_index_or a i d).1 ≡ (slice_index_or b i d).1
