-- What is multiplied and the ways that are left make up all.
use Rattle.std.proofs.Common.{◌≡◌, ◌*◌, ◌^◌, ◌≤◌, map, drop}
use Rattle.projections.specs.Origins.{ways}
use Rattle.projections.specs.Parts.{axis_sizes}
use Rattle.projections.proofs.axes.Axes.ways_of.Given as goal

abbrev pub invariant-loop-f : goal.invariant-loop-f
invariant-loop-f l = record {
  few : l.all ≤ 16 ^ l.f-index;
  whole : l.all * ways (axis_sizes l.self.list.items) (map (λ f. f.variable) (drop l.f-index l.variables)) ≡ ways (axis_sizes l.self.list.items) (map (λ f. f.variable) l.variables);
}
