-- The product of the sizes is the number of states.
use Rattle.sas.specs.Ranks as Ranks
use Rattle.projections.proofs.Held.{held_shaped}
use Rattle.projections.proofs.projection.Projection.states.Goals as goal

pub returns-clause-count : goal.returns-clause-count
unfolding Ranks.states
returns-clause-count c = c.product.ensures

pub returns-clause-shaped : goal.returns-clause-shaped
returns-clause-shaped c = held_shaped c.args.self.now
