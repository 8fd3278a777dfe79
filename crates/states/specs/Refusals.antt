-- The numbers of refusals; want of memory has none.
use Rattle.std.specs.Prelude.{ℕ, Some, None, Option}
use Rattle.states.specs.declared.ranks.StateRefusal.{StateRefusal}
use Rattle.states.specs.declared.ranks.StateRefusal.TheVariants.{NoState, NoRank, Memory}

abbrev pub number_of : StateRefusal → Option ℕ
number_of NoState = Some 10
number_of NoRank = Some 10
number_of Memory = None
