-- What is added up so far, and what is left of the values and of the sizes.
use Rattle.std.specs.Iterator.Adapters.{zip_first, zip_second}
use Rattle.std.specs.Slice.Iter.{iter_rest}
use Rattle.tasks.specs.View.{model_of}
use Rattle.states.proofs.Sums.{SoFar}
use Rattle.states.proofs.ranks.rank.Given as goal

abbrev pub invariant-loop-value : goal.invariant-loop-value
invariant-loop-value l = SoFar (model_of l.task).sizes l.values l.sum l.coefficient (iter_rest (zip_second l.value-iterator)) (iter_rest (zip_first l.value-iterator))
