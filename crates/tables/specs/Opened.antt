-- What every opened table keeps to.
use Rattle.std.specs.Prelude.{◌≡◌, ℕ, List}
use Rattle.projections.specs.Parts.{scales}
use Rattle.projections.specs.Projection.{among, only, projected}
use Rattle.sas.specs.Model.{Model, Rules}
use Rattle.tables.specs.Refusals.{Opens}

-- p and places are the projection of m onto the pattern, and the entries open as its table
pub record Opened (m : Model) (pattern : List ℕ) (p : Model) (places shares entries : List ℕ) : Type 0 where
  pub rules : Rules m
  pub view : p ≡ projected (among pattern) m
  pub placed : places ≡ only (among pattern) (scales m.sizes)
  pub opens : Opens m pattern shares entries
