-- The projected task, and the coefficients of its variables in the whole task.
use Rattle.std.specs.Prelude.{ℕ, List, vec_items}
use Rattle.sas.specs.Model.{Model}
use Rattle.projections.specs.Parts.{axis_places, model}
use Rattle.projections.specs.declared.projection.Projection.{Projection}

abbrev pub view_of : Projection → Model
view_of p = model (vec_items p.axes.list) p.goal p.moves

abbrev pub places_of : Projection → List ℕ
places_of p = axis_places (vec_items p.axes.list)
