-- The values written are the outcome.
use Rattle.std.proofs.Common.{sym, ◌∙◌}
use Rattle.sas.proofs.Outcomes.{outcome_more, outcome_all}
use Rattle.states.proofs.steps.put.Goals as goal

pub loop-f-preserved : goal.loop-f-preserved
loop-f-preserved c = rw c.from.ensures (sym (outcome_more c.args.effects.now c.loop-f.values c.loop-f.f-index _ c.loop-f-test.true) ∙ c.loop-f.invariant)

pub returns : goal.returns
returns c = sym (outcome_all c.args.effects.now c.loop-f.values c.loop-f.f-index c.loop-f-test.false) ∙ c.loop-f.invariant
