-- What is written, and what the rest of the rank gives, make the state.
use Rattle.std.proofs.Common.{◌≡◌, ◌++◌, take, drop}
use Rattle.sas.proofs.Unranks.{unrank}
use Rattle.states.proofs.ranks.unpack.Given as goal

abbrev pub invariant-loop-i : goal.invariant-loop-i
invariant-loop-i l = take l.i l.values ++ unrank (drop l.i l.sizes) l.rest ≡ unrank l.sizes l.rank
