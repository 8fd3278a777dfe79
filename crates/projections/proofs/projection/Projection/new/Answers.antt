-- The parts are those of the projected task, which keeps its shape and the laws.
use Rattle.std.proofs.Common.{map, vec_items, sym, ap, ◌∙◌, subst}
use Rattle.tasks.specs.View.{model_of}
use Rattle.projections.specs.Parts.{action, axis_sizes, scales}
use Rattle.projections.specs.Projection.{among, only}
use Rattle.projections.specs.Shapes.{Shaped}
use Rattle.projections.proofs.Making.{model_is}
use Rattle.projections.proofs.Projecting.{projection_laws}
use Rattle.projections.proofs.Shaping.{shaping}
use Rattle.projections.proofs.projection.Projection.new.Goals as goal

pub invariant_of-result : goal.invariant_of-result
invariant_of-result c =
    let keep = among c.args.pattern.now in
    let m = model_of c.args.task.now in
    let is = model_is keep m (axis_sizes c.in_ok-axes.axes.list.items) _ (vec_items c.in_ok-goal.goal) _ (map action (vec_items c.in_ok-moves.moves)) _ c.in_ok-axes.ensures.sizes c.sizes.ensures.value c.in_ok-goal.ensures c.goal.ensures c.in_ok-moves.ensures c.operators.ensures in
    record { shaped = ∣ subst Shaped (sym is) (shaping keep m c.sizes.ensures.rules) ∣₁ }

pub returns : goal.returns
returns c =
    let keep = among c.args.pattern.now in
    let m = model_of c.args.task.now in
    record {
      view = model_is keep m (axis_sizes c.in_ok-axes.axes.list.items) _ (vec_items c.in_ok-goal.goal) _ (map action (vec_items c.in_ok-moves.moves)) _ c.in_ok-axes.ensures.sizes c.sizes.ensures.value c.in_ok-goal.ensures c.goal.ensures c.in_ok-moves.ensures c.operators.ensures;
      lawful = projection_laws keep m c.sizes.ensures.rules;
      places = c.in_ok-axes.ensures.places ∙ ap (λ zs. only keep (scales zs)) c.sizes.ensures.value;
    }
