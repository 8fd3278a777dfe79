-- The closure is given the state of the rank.
use Rattle.std.proofs.Common.{refl, arith}
use Rattle.states.proofs.ranks.at_rank.Goals as goal

pub returns : goal.returns
returns g c = (omega arith, c.unpack.new.values, c.f.new.arg2, c.unpack.ensures, record { shown = _; shows = refl; left = _; met = c.f.ensures; leaves = refl })
