-- The theorems are lemmas at this graph.
use Rattle.bestfirst.specs.Theorems.{problem}
use Rattle.bestfirst.proofs.Traces.{traced_init, traced_take, traced_relax}
use Rattle.bestfirst.proofs.links_are_kept.Goals as goal

pub returns : goal.returns
returns c = record { start = λ G. traced_init (problem G); node = λ G. traced_take (problem G); edge = λ G. traced_relax (problem G) }
