-- What the calls of a waiting list do, over any type W that stands for one: how many places it has, the key under which each rank waits, and whether it is in order.
use Rattle.std.specs.Prelude.{◌≡◌, ℕ, ◌<◌, Bool, true, cond, Some, None, Ok, Err, Option, Result, ◌≢◌}
use Rattle.lists.specs.declared.PutRefusal.{PutRefusal}

-- the lower of the key that waits already, if any, and another
abbrev pub lower : {K : Type 0} → (K → K → Bool) → Option K → K → K
lower leq None k = k
lower leq (Some j) k = cond (leq j k) j k

-- whether the list s accepts a key at a rank
abbrev pub Accepts : {K W : Type 0} → (W → ℕ) → W → ℕ → K → Type 0
Accepts places s rank key = rank < places s

module _ {K W : Type 0} (places : W → ℕ) (waiting : W → ℕ → Option K) (ordered : W → Type 0) where
  -- empty and in order, with this capacity
  pub record Fresh (capacity : ℕ) (t : W) : Type 0 where
    pub sized : places t ≡ capacity
    pub none : (q : ℕ) → waiting t q ≡ None
    pub still : ordered t

  -- empty and in order, with the capacity that it had
  abbrev pub Cleared : W → W → Type 0
  Cleared s t = Fresh (places s) t

  -- in order, and all but one rank wait as before
  pub record Only (s : W) (rank : ℕ) (t : W) : Type 0 where
    pub same : (q : ℕ) → (q ≢ rank) → waiting t q ≡ waiting s q
    pub kept : places t ≡ places s
    pub still : ordered t

  -- nothing waited, and nothing waits
  pub record Empty (s t : W) : Type 0 where
    pub before : (q : ℕ) → waiting s q ≡ None
    pub after : Cleared s t

  module _ (leq : K → K → Bool) where
    pub record Added (s : W) (rank : ℕ) (key : K) (t : W) : Type 0 where
      pub accepted : Accepts places s rank key
      pub here : waiting t rank ≡ Some (lower leq (waiting s rank) key)
      pub only : Only s rank t

    pub record Refused (s : W) (rank : ℕ) (key : K) (t : W) : Type 0 where
      pub denied : Accepts places s rank key → ⊥
      pub same : t ≡ s

    -- what a put does to a list in order, by its answer
    abbrev pub Put : W → ℕ → K → Result (Unit {0}) PutRefusal → W → Type 0
    Put s rank key (Ok _) t = Added s rank key t
    Put s rank key (Err _) t = Refused s rank key t

    pub record Taken (s : W) (rank : ℕ) (key : K) (t : W) : Type 0 where
      pub within : rank < places s
      pub here : waiting s rank ≡ Some key
      pub least : (q : ℕ) (k : K) → waiting s q ≡ Some k → leq key k ≡ true
      pub gone : waiting t rank ≡ None
      pub only : Only s rank t

    -- what a take does to a list in order, by its answer
    abbrev pub Took : W → Option (ℕ × K) → W → Type 0
    Took s None t = Empty s t
    Took s (Some p) t = Taken s p.0 p.1 t
