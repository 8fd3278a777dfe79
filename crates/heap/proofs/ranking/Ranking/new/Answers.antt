-- At first each rank stands at the place of its number.
use Rattle.std.proofs.Common.{arith}
use Rattle.std.proofs.lemmas.List.FromFn.{get_or-range_with_len, length-range_with_len}
use Rattle.std.specs.List.{range_with_len}
use Rattle.heap.proofs.Swaps.{inverse_same}
use Rattle.heap.proofs.ranking.Ranking.new.Goals as goal

pub invariant_of-result : goal.invariant_of-result
invariant_of-result c =
    let n = c.args.capacity in
    record { inverse = rw (c.in_ok-order.ensures, c.in_ok-spots.ensures) (inverse_same (range_with_len 0 n) (λ k h. omega (arith, get_or-range_with_len 0 n k 0 (rw length-range_with_len at h)))) }

pub returns : goal.returns
returns c = rw (c.in_ok-order.ensures, length-range_with_len)
