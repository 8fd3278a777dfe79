-- The theorems are lemmas at this graph.
use lib.Dec.{T}
use Rattle.bestfirst.specs.Theorems.{problem}
use Rattle.bestfirst.proofs.Steps.{open_all, take}
use Rattle.bestfirst.proofs.Look.{look}
use Rattle.bestfirst.proofs.opening_is_sound.Goals as goal

pub returns : goal.returns
returns c = record {
  at_once = λ G. open_all (problem G);
  node = λ G. take (problem G);
  edge = λ G pending fewer. look (problem G) {Pending = λ x p y. T (pending x p y)} {Fewer = λ x p y. T (fewer x p y)};
}
