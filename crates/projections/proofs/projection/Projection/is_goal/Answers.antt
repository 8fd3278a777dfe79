-- The test of the goal's digits decides, below the number of states.
use Rattle.std.proofs.Common.{◌≡◌, Decides, subst, arith}
use Rattle.std.specs.List.{AllByRecursion}
use Rattle.std.proofs.lemmas.Bool.{ltb-true}
use Rattle.sas.proofs.Moves.{goal_rank_inside}
use Rattle.projections.specs.Parts.{digit}
use Rattle.projections.specs.View.{view_of}
use Rattle.projections.proofs.Edges.{goal_decides}
use Rattle.projections.proofs.projection.Projection.is_goal.Goals as goal

pub returns-then-rank-states : goal.returns-then-rank-states
returns-then-rank-states c =
    let p = view_of c.args.self.now in
    goal_decides p c.states.ensures.shaped c.args.rank (omega (arith, c.if-rank-states.true, c.states.ensures.count)) c.all_stand.result (subst (λ fs. Decides c.all_stand.result (AllByRecursion (λ f. digit p.sizes f.variable c.args.rank ≡ f.value) fs)) c.deref.ensures.value c.all_stand.ensures)

pub returns-else-rank-states : goal.returns-else-rank-states
returns-else-rank-states c = (
  λ t. absurd (omega (arith, ltb-true c.args.rank c.states.result t, c.if-rank-states.false)),
  λ g. absurd (omega (arith, goal_rank_inside (view_of c.args.self.now) c.args.rank g, c.states.ensures.count, c.if-rank-states.false)),
)
