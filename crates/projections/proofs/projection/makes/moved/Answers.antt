-- What is asked and set about kept variables is the projected operator.
use Rattle.std.proofs.Common.{vec_items}
use Rattle.tasks.specs.Parts as Tasks
use Rattle.projections.specs.Projection.{among}
use Rattle.projections.proofs.Making.{moved_is}
use Rattle.projections.proofs.projection.makes.moved.Goals as goal

pub returns : goal.returns
returns c = moved_is (among c.args.pattern.now) (Tasks.action c.args.operator.now) (vec_items c.in_ok-asked.asked) c.deref.result.now (vec_items c.in_ok-facts.facts) (vec_items c.in_ok-effects.effects) c.effects.result.now c.preconditions.result.now c.in_ok-asked.ensures c.deref.ensures.value c.in_ok-facts.ensures c.preconditions.ensures c.in_ok-effects.ensures c.effects.ensures
