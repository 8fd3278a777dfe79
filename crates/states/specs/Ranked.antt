-- What ranks and states are to one another.
use Rattle.std.specs.Prelude.{◌≡◌, ℕ, ◌<◌, ◌≤◌, List}
use Rattle.sas.specs.Model.{Model}
use Rattle.sas.specs.Ranks.{rank, states}
use Rattle.sas.specs.States.{State}
use Rattle.states.specs.declared.ranks.StateRefusal.{StateRefusal}
use Rattle.states.specs.declared.ranks.StateRefusal.TheVariants.{NoState, NoRank, Memory}

-- s is a state, k is its rank, and no other state has that rank
pub record RankOf (m : Model) (s : List ℕ) (k : ℕ) : Type 0 where
  pub state : State m.sizes s
  pub value : k ≡ rank m.sizes s
  pub below : k < states m
  pub only : (t : List ℕ) → State m.sizes t → rank m.sizes t ≡ k → t ≡ s

-- s is the state of rank k
pub record StateOf (m : Model) (k : ℕ) (s : List ℕ) : Type 0 where
  pub state : State m.sizes s
  pub value : rank m.sizes s ≡ k

-- why there is no state for the number k: it is no rank, or memory wants
abbrev pub Unranked : Model → ℕ → StateRefusal → Type 0
Unranked m k NoState = ⊥
Unranked m k NoRank = states m ≤ k
Unranked m k Memory = k < states m
