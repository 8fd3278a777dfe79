-- The keys that are made from numbers.
use Rattle.std.specs.Prelude.{ℕ, ◌/◌, ◌%◌}
use Rattle.keys.specs.declared.Distance.{Distance}
use Rattle.keys.specs.declared.Pair.{Pair}

abbrev pub distance_of : ℕ → Distance
distance_of n = record { 0 = n }

-- two numbers with the same quotient have equal sums
abbrev pub pair_of : ℕ → Pair
pair_of n = record { sum = n / 4; height = n % 4 }
