-- What is added and what is left to add make up the offset.
use Rattle.std.proofs.Common.{◌≡◌, ◌+◌, ◌*◌, ◌≤◌, map, drop}
use Rattle.projections.specs.Origins.{offset}
use Rattle.projections.specs.Parts.{axis_sizes}
use Rattle.projections.proofs.axes.Axes.offset_of.Given as goal

abbrev pub invariant-loop-f : goal.invariant-loop-f
invariant-loop-f l = record {
  few : l.sum ≤ 1048576 * l.f-index;
  whole : l.sum + offset (axis_sizes l.self.list.items) (map (λ f. f.variable) (drop l.f-index l.variables)) l.rest ≡ offset (axis_sizes l.self.list.items) (map (λ f. f.variable) l.variables) l.n;
}
