-- The rank stays below, and what is left to write makes of its state what all facts make of the first.
use Rattle.std.proofs.Common.{◌≡◌, ◌<◌, drop}
use Rattle.sas.specs.Model.{product}
use Rattle.sas.specs.States.{outcome}
use Rattle.sas.proofs.Unranks.{unrank}
use Rattle.projections.specs.Parts.{axis_sizes}
use Rattle.projections.proofs.axes.Axes.written.Given as goal

abbrev pub invariant-loop-f : goal.invariant-loop-f
invariant-loop-f l = record {
  low : l.now_at < product (axis_sizes l.self.list.items);
  written : outcome (drop l.f-index l.facts) (unrank (axis_sizes l.self.list.items) l.now_at) ≡ outcome l.facts (unrank (axis_sizes l.self.list.items) l.rank);
}
