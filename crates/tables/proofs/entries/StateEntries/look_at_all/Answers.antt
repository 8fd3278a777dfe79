-- Past the last operator no step is left.
use Rattle.std.proofs.Common.{◌≡◌, length, ◌∙◌, subst, inr, ⊎_elim, arith}
use Rattle.tables.specs.Backwards.{Left}
use Rattle.tables.specs.Lists.{Looked}
use Rattle.tables.proofs.entries.StateEntries.look_at_all.Goals as goal

pub loop-operator-preserved : goal.loop-operator-preserved
loop-operator-preserved g c =
    record {
      ordered = c.look_at.ensures.ordered;
      places = c.look_at.ensures.places ∙ c.loop-operator.invariant.places;
      capped = λ v d e. ⊎_elim (c.loop-operator.invariant.capped v d) inr (c.look_at.ensures.capped v d e);
      sofar = c.look_at.ensures.sofar;
    }

pub returns : goal.returns
returns g c =
    let w = g.W.WaitingList in
    let graph = c.args.self.now.graph.now in
    let t = c.args.t in
    let end : c.loop-operator.operator ≡ length graph.shares.now = omega (arith, c.loop-operator-test.false, c.loop-operator.auto.operator-end) in
    subst (λ n. Looked w.places w.waiting w.ordered graph c.args.self.now.entries.now t c.args.g (Left t n) c.args.list.now c.loop-operator.list) end c.loop-operator.invariant
