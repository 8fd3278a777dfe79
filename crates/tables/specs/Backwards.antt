-- Dijkstra's algorithm backwards over a projected task, and the progress of it that entries and a waiting list hold.
use Rattle.std.specs.Prelude.{◌≡◌, ℕ, ◌+◌, ◌<◌, ◌≤◌, cond, ◌⊎◌, List, Some, None, Option, ◌==◌, ◌≢◌, nat_lt, refl}
use Rattle.std.proofs.Common.{zero-le}
use Rattle.std.proofs.Math.Decide.{ℕ_discrete}
use Rattle.bestfirst.specs.Problem.{above, Problem}
use Rattle.bestfirst.specs.Search.{Status, blank, waiting, opened, offered, Invariant}
use Rattle.bestfirst.specs.Table.{backward}
use Rattle.estimators.specs.Heights.{most}
use Rattle.keys.specs.declared.Distance.{Distance}
use Rattle.projections.specs.Origins.{free, offset, ways}
use Rattle.projections.specs.Projection.{Edge}
use Rattle.projections.specs.Shapes.{Shaped}
use Rattle.sas.specs.Model.{Model}
use Rattle.sas.specs.Ranks.{GoalRank, states}
use Rattle.tables.specs.Costs.{mark}
use Rattle.tables.specs.Entries.{entry}

-- steps of a projected task, each at its operator's share
abbrev pub forward : Model → (ℕ → ℕ) → Problem
forward p each =
    record {
      Node = ℕ;
      same = ℕ_discrete;
      Op = ℕ;
      Edge = λ k o l. Edge p o k l;
      cost = each;
      Source = λ k. ⊥;
      height = λ k. above 0;
      consistent = λ k o l b d e. (0, refl, zero-le);
    }

-- the same steps from the goal states back
abbrev pub back : Model → (ℕ → ℕ) → Problem
back p each = backward (forward p each) (GoalRank p)

-- what is known of a rank: its key, where it waits; else its entry, where that is set
abbrev pub slot : Option Distance → ℕ → Status
slot (Some d) e = waiting d.0
slot None e = cond (e == mark) blank (opened e)

-- of the entries only those below m count
abbrev pub entry_at : List ℕ → ℕ → ℕ → ℕ
entry_at entries m k = cond (nat_lt k m) (entry entries k) mark

abbrev pub progress : List ℕ → ℕ → (ℕ → Option Distance) → ℕ → Status
progress entries m waits k = slot (waits k) (entry_at entries m k)

-- what waits has no entry yet
abbrev pub Unset : List ℕ → ℕ → (ℕ → Option Distance) → Type 0
Unset entries m waits = (k : ℕ) (d : Distance) → waits k ≡ Some d → (k < m) × (entry entries k ≡ mark)

-- what waits after k was offered the cost c
pub record Offered (entries : List ℕ) (m : ℕ) (waits : ℕ → Option Distance) (k c : ℕ) (after : ℕ → Option Distance) : Type 0 where
  pub here : progress entries m after k ≡ offered (above 0) (progress entries m waits k) c
  pub there : (q : ℕ) → (q ≢ k) → after q ≡ waits q
  pub unset : Unset entries m after
  pub keys : (q : ℕ) (d : Distance) → after q ≡ Some d → (waits q ≡ Some d) ⊎ (d.0 ≡ c)

-- the steps to t from the o-th operator on are still to be looked at
abbrev pub Left : ℕ → ℕ → ℕ → ℕ → ℕ → Type 0
Left t o x q y = (x ≡ t) × (o ≤ q)

-- of the o-th operator, those from the n-th choice of its free variables on; b is their origin
abbrev pub Later : Model → ℕ → ℕ → ℕ → ℕ → ℕ → ℕ → ℕ → Type 0
Later p t o b n x q y = (x ≡ t) × ((o + 1 ≤ q) ⊎ ((q ≡ o) × ((k : ℕ) × (n ≤ k) × (k < ways p.sizes (free p o)) × (y ≡ b + offset p.sizes (free p o) k))))

-- what does not change while a table is built or tested
pub record Fixed (p : Model) (each : ℕ → ℕ) (m count : ℕ) : Type 0 where
  pub shaped : Shaped p
  pub light : (o : ℕ) → each o ≤ 65535
  pub size : m ≡ states p
  pub long : m ≤ count

-- what does not change while the steps to t, which has the cost g, are looked at
pub record Looking (p : Model) (each : ℕ → ℕ) (m count t g : ℕ) : Type 0 where
  pub fixed : Fixed p each m count
  pub inside : t < m
  pub small : g ≤ most

-- t is opened at g, and all but the pending steps are looked at
pub record Sofar (p : Model) (each : ℕ → ℕ) (entries : List ℕ) (m t g : ℕ) (Pending : ℕ → ℕ → ℕ → Type 0) (waits : ℕ → Option Distance) : Type 0 where
  pub inv : Invariant (back p each) Pending (g + 0) (progress entries m waits)
  pub here : progress entries m waits t ≡ opened g
  pub unset : Unset entries m waits

-- each key was there before or is at most this
abbrev pub Capped : ℕ → (ℕ → Option Distance) → (ℕ → Option Distance) → Type 0
Capped top before after = (k : ℕ) (d : Distance) → after k ≡ Some d → (before k ≡ Some d) ⊎ (d.0 ≤ top)
