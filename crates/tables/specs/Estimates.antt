-- What a table tells of operators and states, from its task, pattern, shares and entries.
use Rattle.std.specs.Prelude.{ℕ, cond, List, length, nat_lt, Option, None}
use Rattle.projections.specs.Parts.{folded, scales}
use Rattle.projections.specs.Projection.{among, only, projected}
use Rattle.sas.specs.Model.{Model}
use Rattle.sas.specs.Ranks.{states}
use Rattle.sas.specs.States.{operator}
use Rattle.tables.specs.Costs.{share}
use Rattle.tables.specs.Entries.{entry, height_at}

-- the given share where the operator has an effect in the pattern, and else 0
abbrev pub share_in : Model → List ℕ → List ℕ → ℕ → ℕ
share_in m pattern shares o = cond (nat_lt 0 (length (operator (projected (among pattern) m) o).effects)) (share shares o) 0

-- the rank of the projection of the state of rank k
abbrev pub rank_in : Model → List ℕ → ℕ → ℕ
rank_in m pattern k = folded (only (among pattern) (scales m.sizes)) (only (among pattern) m.sizes) k

abbrev pub height_in : Model → List ℕ → List ℕ → ℕ → Option ℕ
height_in m pattern entries k = cond (nat_lt k (states m)) (height_at (entry entries (rank_in m pattern k))) None
