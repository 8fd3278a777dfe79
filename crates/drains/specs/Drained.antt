-- What a drain gives of a list in order, and what it leaves.
use Rattle.std.specs.Prelude.{◌≡◌, ℕ, Bool, true, List, Some, Option, ◌≢◌}
use Rattle.std.specs.List.{All, AllPairs, Contains}
use Rattle.lists.specs.Waits.{Cleared}

module _ {K : Type 0} where
  -- the keys come in the order of leq
  abbrev pub Ascends : (K → K → Bool) → List (ℕ × K) → Type 0
  Ascends leq out = AllPairs (λ p q. leq p.1 q.1 ≡ true) out

  -- no rank stands twice
  abbrev pub Once : List (ℕ × K) → Type 0
  Once out = AllPairs (λ p q. p.0 ≢ q.0) out

  -- each pair waited
  abbrev pub Waited : (ℕ → Option K) → List (ℕ × K) → Type 0
  Waited waiting out = All (λ p. waiting p.0 ≡ Some p.1) out

  -- each pair that waited is there
  abbrev pub AllGiven : (ℕ → Option K) → List (ℕ × K) → Type 0
  AllGiven waiting out = (q : ℕ) (k : K) → waiting q ≡ Some k → Contains out (q, k)

  pub record Drained {W : Type 0} (places : W → ℕ) (waiting : W → ℕ → Option K) (ordered : W → Type 0) (leq : K → K → Bool) (s : W) (out : List (ℕ × K)) (t : W) : Type 0 where
    pub ascends : Ascends leq out
    pub once : Once out
    pub waited : Waited (waiting s) out
    pub all : AllGiven (waiting s) out
    pub left : Cleared places waiting ordered s t
