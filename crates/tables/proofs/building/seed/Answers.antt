-- One rank more is put if it is a goal state's, and passed over else.
use Rattle.std.proofs.Common.{◌≡◌, ◌+◌, sym, refl, ◌∙◌, subst, arith}
use Rattle.std.proofs.lemmas.Bool.Decides.{not_from_Decides}
use Rattle.tables.specs.Going.{Seeded}
use Rattle.tables.specs.Weighted.{task_of}
use Rattle.tables.proofs.Offers.{put_accepted}
use Rattle.tables.proofs.Runs.{seeded_none, seeded_no, seeded_yes}
use Rattle.tables.proofs.building.seed.Goals as goal
use Rattle.tables.proofs.building.seed.Goals.{then-is_goal, else-is_goal}

pub loop-rank-init : goal.loop-rank-init
loop-rank-init g c = (c.requires.fresh.still, refl, seeded_none _ _ c.requires.fresh.none)

pub loop-rank-preserved : goal.loop-rank-preserved
loop-rank-preserved g c =
    let p = task_of c.args.graph.now in
    let W = g.W.WaitingList in
    let k = c.loop-rank.rank in
    elim c.if-is_goal.branch [
      | then-is_goal w ↦
          let a = put_accepted W.places W.waiting W.ordered _ _ _ _ w.put.result (omega (arith, c.requires.room, c.loop-rank-test.true, c.loop-rank.invariant.1)) (w.put.ensures c.loop-rank.invariant.0) in
          subst (λ l. W.ordered l × (W.places l ≡ W.places c.args.list.now) × Seeded p (k + 1) (W.waiting l)) (sym w.list-is)
          (a.only.still, a.only.kept ∙ c.loop-rank.invariant.1, seeded_yes p k _ _ c.loop-rank.invariant.2 _ refl (c.is_goal.ensures.0 w.if-is_goal.true) a.here a.only.same)
      | else-is_goal w ↦
          subst (λ l. W.ordered l × (W.places l ≡ W.places c.args.list.now) × Seeded p (k + 1) (W.waiting l)) (sym w.list-is)
          (c.loop-rank.invariant.0, c.loop-rank.invariant.1, seeded_no p k _ (W.waiting c.loop-rank.list) c.loop-rank.invariant.2 (not_from_Decides c.is_goal.result c.is_goal.ensures w.if-is_goal.false))
    ]

pub returns : goal.returns
returns g c =
    let e : c.loop-rank.rank ≡ c.args.graph.now.states = omega (arith, c.loop-rank-test.false, c.loop-rank.auto.rank-end) in
    record {
      ordered = c.loop-rank.invariant.0;
      places = c.loop-rank.invariant.1;
      seeded = subst (λ n. Seeded (task_of c.args.graph.now) n (g.W.WaitingList.waiting c.loop-rank.list)) e c.loop-rank.invariant.2;
    }
