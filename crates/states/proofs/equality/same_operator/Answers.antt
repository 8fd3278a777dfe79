-- The tests of both lists decide.
use Rattle.std.proofs.Common.{sym, ◌∙◌}
use Rattle.std.proofs.lemmas.Bool.{false≢true}
use Rattle.sas.specs.Same.{SameSet}
use Rattle.sas.proofs.Equal.{equal_facts, equal_preconditions}
use Rattle.states.proofs.Sets.{decides_at, exact_from}
use Rattle.states.proofs.equality.same_operator.Goals as goal

pub returns-then-same_set : goal.returns-then-same_set
returns-then-same_set c =
    let p = decides_at SameSet _ _ _ _ _ c.preconditions.ensures c.preconditions-2.ensures (c.same_set.ensures (exact_from _ equal_preconditions)) in
    let e = decides_at SameSet _ _ _ _ _ c.effects.ensures c.effects-then-same_set.ensures (c.same_set-then-same_set.ensures (exact_from _ equal_facts)) in
    (λ t. record { preconditions = p.0 c.if-same_set.true; effects = e.0 t }, λ h. e.1 h.effects)

pub returns-else-same_set : goal.returns-else-same_set
returns-else-same_set c =
    let p = decides_at SameSet _ _ _ _ _ c.preconditions.ensures c.preconditions-2.ensures (c.same_set.ensures (exact_from _ equal_preconditions)) in
    (λ t. absurd (false≢true (sym c.if-same_set.false ∙ t)), λ h. p.1 h.preconditions)
