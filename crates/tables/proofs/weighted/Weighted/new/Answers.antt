-- What the pattern and the shares keep to is what a graph holds.
use Rattle.std.proofs.Common.{length, sym, ap, ◌∙◌}
use Rattle.projections.specs.Projection.{among}
use Rattle.projections.proofs.Projecting.{operators_projected}
use Rattle.tasks.specs.View.{model_of}
use Rattle.tables.proofs.Opens.{all_shares_light}
use Rattle.tables.proofs.weighted.Weighted.new.Goals as goal

pub invariant_of-result : goal.invariant_of-result
invariant_of-result c =
    let i = c.is_fit.ensures.0 c.if-not-is_fit.false in
    record {
      count = i.count ∙ sym (ap (λ q. length q.operators) c.in_ok-projection.ensures.view ∙ operators_projected (among c.args.pattern.now) (model_of c.args.task.now));
      light = all_shares_light c.args.shares.now i.light;
      sized = c.states-states.ensures.count;
    }
