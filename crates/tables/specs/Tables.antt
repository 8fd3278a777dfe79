-- A table as an estimator: for which tasks it is, and what it tells of the pattern that it was opened with.
use Rattle.std.specs.Prelude.{◌≡◌, ℕ, List, vec_items, Option}
use Rattle.projections.specs.Projection.{among, only, projected, Remains}
use Rattle.sas.specs.Model.{Model}
use Rattle.sas.specs.Ranks.{rank}
use Rattle.sas.specs.Same.{Same}
use Rattle.sas.specs.States.{State}
use Rattle.tasks.specs.View.{model_of}
use Rattle.tables.specs.Costs.{share}
use Rattle.tables.specs.Entries.{entry, height_at}
use Rattle.tables.specs.Estimates.{height_in, share_in}
use Rattle.tables.specs.declared.table.Table.{Table}

abbrev pub table_suits : Table → Model → Type 0
table_suits t m = Same (model_of t.own) m

abbrev pub table_shares : Table → ℕ → ℕ
table_shares t o = share_in (model_of t.own) (vec_items t.pattern) (vec_items t.shares) o

abbrev pub table_heights : Table → ℕ → Option ℕ
table_heights t k = height_in (model_of t.own) (vec_items t.pattern) t.entries.now k

-- t is the table of these entries for the task m, the pattern and the shares
pub record TableOf (m : Model) (pattern shares entries : List ℕ) (t : Table) : Type 0 where
  pub own : model_of t.own ≡ m
  -- the given share for operators with an effect in the pattern, 0 for others
  pub shared : (o : ℕ) → Remains (projected (among pattern) m) o → table_shares t o ≡ share shares o
  pub unshared : (o : ℕ) → (Remains (projected (among pattern) m) o → ⊥) → table_shares t o ≡ 0
  -- the height of a state is its projection's entry
  pub heights : (s : List ℕ) → State m.sizes s → table_heights t (rank m.sizes s) ≡ height_at (entry entries (rank (projected (among pattern) m).sizes (only (among pattern) s)))
