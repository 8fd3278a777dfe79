-- What rows hold, and a change of one.
use Rattle.std.specs.Prelude.{ℕ, Bool, false, List, vec_items, slice_index_or, slice_set}
use Rattle.sas.specs.declared.Row.{Row}
use Rattle.session.specs.declared.rows.Rows.{Rows}

abbrev pub table : Rows → List Row
table t = vec_items t.rows

-- a row with a cost and no bar
abbrev pub freed : ℕ → Row
freed c = record { cost = c; barred = false }

-- the row numbered i; past the last one, a row of no cost and no bar
abbrev pub row_at : List Row → ℕ → Row
row_at xs i = slice_index_or xs i (freed 0)

-- one row changed, and no other
abbrev pub with_cost : List Row → ℕ → ℕ → List Row
with_cost xs i c = slice_set xs i (record { cost = c; barred = (row_at xs i).barred })

abbrev pub with_bar : List Row → ℕ → Bool → List Row
with_bar xs i b = slice_set xs i (record { cost = (row_at xs i).cost; barred = b })
