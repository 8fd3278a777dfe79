-- The rank of a state, and steps from rank to rank.
use Rattle.std.specs.Prelude.{◌≡◌, ℕ, zero, suc, ◌+◌, ◌*◌, ◌<◌, List, length, take, slice_index}
use Rattle.sas.specs.Model.{Model, product}
use Rattle.sas.specs.States.{State, Step, Goal}

-- f 0 + .. + f (n - 1)
abbrev pub sum : (ℕ → ℕ) → ℕ → ℕ
sum f zero = 0
sum f (suc n) = sum f n + f n

-- 1 for variable 0, and for each later one the product of the sizes before it
abbrev pub coefficient : List ℕ → ℕ → ℕ
coefficient sizes v = product (take v sizes)

-- the sum of value times coefficient
unfoldable pub rank : List ℕ → List ℕ → ℕ
rank sizes s = sum (λ v. slice_index s v * coefficient sizes v) (length sizes)

-- the number of states
unfoldable pub states : Model → ℕ
states m = product m.sizes

-- o leads from the state of rank k to that of rank l
unfoldable pub StepRank : Model → ℕ → ℕ → ℕ → Type 0
StepRank m o k l = (s : List ℕ) × (t : List ℕ) × Step m o s t × (rank m.sizes s ≡ k) × (rank m.sizes t ≡ l)

-- k is the rank of a goal state
unfoldable pub GoalRank : Model → ℕ → Type 0
GoalRank m k = (s : List ℕ) × Goal m s × (rank m.sizes s ≡ k)

-- states and the numbers below their count correspond one to one
pub record OneToOne (m : Model) : Type 0 where
  pub below : (s : List ℕ) → State m.sizes s → rank m.sizes s < states m
  pub apart : (s t : List ℕ) → State m.sizes s → State m.sizes t → rank m.sizes s ≡ rank m.sizes t → s ≡ t
  pub reached : (k : ℕ) → k < states m → (s : List ℕ) × State m.sizes s × (rank m.sizes s ≡ k)
