-- What a session is to a reader.
use Rattle.std.specs.Prelude.{ℕ, List, map, None, vec_items, Option, slice_set}
use Rattle.sas.specs.Model.{Model}
use Rattle.tasks.specs.View.{model_of}
use Rattle.session.specs.Rows.{table, freed}
use Rattle.sas.specs.declared.Row.{Row}
use Rattle.session.specs.declared.session.Session.{Session}

-- the task, the present state, a row for each operator, the operator of the step under way, and the wear
pub record Bench : Type 0 where
  pub model : Model
  pub state : List ℕ
  pub rows : List Row
  pub step : Option ℕ
  pub wear : ℕ

abbrev pub bench : Session → Bench
bench s = record { model = model_of s.task; state = vec_items s.state; rows = table s.rows; step = s.step; wear = s.wear }

-- a session that was just opened
abbrev pub fresh : Model → List ℕ → List ℕ → Bench
fresh m costs values = record { model = m; state = values; rows = map freed costs; step = None; wear = 0 }

-- a bench with one part changed
abbrev pub with_rows : Bench → List Row → Bench
with_rows b xs = record { model = b.model; state = b.state; rows = xs; step = b.step; wear = b.wear }

abbrev pub with_row : Bench → ℕ → Row → Bench
with_row b i r = with_rows b (slice_set b.rows i r)

abbrev pub with_state : Bench → List ℕ → Bench
with_state b s = record { model = b.model; state = s; rows = b.rows; step = b.step; wear = b.wear }

abbrev pub with_step : Bench → Option ℕ → Bench
with_step b step = record { model = b.model; state = b.state; rows = b.rows; step = step; wear = b.wear }

abbrev pub with_wear : Bench → ℕ → Bench
with_wear b wear = record { model = b.model; state = b.state; rows = b.rows; step = b.step; wear = wear }
