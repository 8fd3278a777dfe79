use Rattle.std.proofs.Common.{rules}
use Rattle.std.proofs.lemmas.List.{get_or-map, length-map}
use Rattle.std.proofs.lemmas.Simd.{map-map}
use Rattle.tasks.proofs.card.Card.operator_name.Goals as goal

pub returns : goal.returns
returns c = search (rules, map-map, get_or-map, length-map)
