-- Heaps of ranks, and where each rank stands.
use Rattle.std.specs.Prelude.{◌≡◌, ℕ, ◌-◌, ◌/◌, ◌<◌, ◌≤◌, Bool, true, false, List, length, is_some, Some, None, Option, ◌≢◌, slice_index, slice_index_or}

-- each number in `order` is below its length
abbrev pub Smalls : List ℕ → Type 0
Smalls order = (i : ℕ) → i < length order → slice_index order i < length order

-- `spots` says where a number of `order` stands
abbrev pub Finds : List ℕ → List ℕ → Type 0
Finds spots order = (i : ℕ) → i < length order → slice_index spots (slice_index order i) ≡ i

abbrev pub Within : List ℕ → List ℕ → Type 0
Within order spots = (r : ℕ) → r < length order → slice_index spots r < length order

-- each number stands where `spots` says
abbrev pub Backs : List ℕ → List ℕ → Type 0
Backs order spots = (r : ℕ) → r < length order → slice_index order (slice_index spots r) ≡ r

-- `order` holds each number below its length once, where `spots` says
pub record Inverse (order spots : List ℕ) : Type 0 where
  pub same : length spots ≡ length order
  pub small : Smalls order
  pub there : Finds spots order
  pub within : Within order spots
  pub back : Backs order spots

-- a key before another, and no key before any
abbrev pub at_most : {K : Type 0} → (K → K → Bool) → Option K → Option K → Bool
at_most leq None y = true
at_most leq (Some x) None = false
at_most leq (Some x) (Some y) = leq x y

abbrev pub before : {K : Type 0} → (K → K → Bool) → List (Option K) → ℕ → ℕ → Bool
before leq keys a b = at_most leq (slice_index_or keys a None) (slice_index_or keys b None)

abbrev pub up : ℕ → ℕ
up j = (j - 1) / 2

module _ (le : ℕ → ℕ → Bool) (xs : List ℕ) (n : ℕ) where
  -- what stands at j is not before what stands above it
  abbrev pub Under : ℕ → ℕ → Type 0
  Under i j = le (slice_index xs i) (slice_index xs j) ≡ true

  abbrev pub Heaped : Type 0
  Heaped = (j : ℕ) → 0 < j → j < n → Under (up j) j

  -- a heap but for what stands at i, which may be too low
  abbrev pub UpTo : ℕ → Type 0
  UpTo i = ((j : ℕ) → 0 < j → j < n → (j ≢ i) → Under (up j) j) × ((j : ℕ) → 0 < j → j < n → up j ≡ i → 0 < i → Under (up i) j)

  -- a heap but for what stands at i, which may be too high
  abbrev pub DownTo : ℕ → Type 0
  DownTo i = ((j : ℕ) → 0 < j → j < n → (up j ≢ i) → Under (up j) j) × ((j : ℕ) → 0 < j → j < n → up j ≡ i → 0 < i → Under (up i) j)

-- the first `count` ranks of `order` have a key
abbrev pub Held : {K : Type 0} → List (Option K) → List ℕ → ℕ → Type 0
Held keys order count = (k : ℕ) → k < count → is_some (slice_index_or keys (slice_index order k) None) ≡ true

-- and no other has
abbrev pub Free : {K : Type 0} → List (Option K) → List ℕ → ℕ → Type 0
Free keys order count = (k : ℕ) → count ≤ k → k < length order → is_some (slice_index_or keys (slice_index order k) None) ≡ false

-- the ranks with a key are the first `count` of `order`
pub record Sound {K : Type 0} (keys : List (Option K)) (order : List ℕ) (count : ℕ) : Type 0 where
  pub long : length keys ≡ length order
  pub few : count ≤ length order
  pub held : Held keys order count
  pub free : Free keys order count
