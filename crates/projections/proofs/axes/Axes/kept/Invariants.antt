-- The variables so far are kept or passed.
use Rattle.projections.specs.Projection.{among}
use Rattle.projections.proofs.Laying.{KeptSoFar}
use Rattle.projections.proofs.axes.Axes.kept.Given as goal

abbrev pub invariant-loop-variable : goal.invariant-loop-variable
invariant-loop-variable l = KeptSoFar (among l.pattern) l.sizes l.list.items l.coefficient l.whole_coefficient l.variable
