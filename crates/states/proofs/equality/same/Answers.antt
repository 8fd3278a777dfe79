-- The tests of sizes, goals and operators decide whether the tasks are equal, and equal tasks are alike.
use Rattle.std.proofs.Common.{◌≡◌, Decides, sym, ◌∙◌}
use Rattle.std.proofs.lemmas.Bool.Decides.{Decides-eqb}
use Rattle.std.proofs.lemmas.Slice.Eq.{slice_eq-Decides}
use Rattle.sas.specs.Same.{Same, SameSet}
use Rattle.sas.proofs.Equal.{equal_facts}
use Rattle.sas.proofs.Alike.{alike, same_back}
use Rattle.tasks.specs.View.{model_of}
use Rattle.states.specs.Sets.{SameActions}
use Rattle.states.proofs.Sets.{decides_at, exact_from}
use Rattle.states.proofs.equality.same.Goals as goal
use Rattle.states.proofs.equality.same.Goals.{then-eq, else-eq}

pub returns-then-same_set : goal.returns-then-same_set
returns-then-same_set c =
    let m = model_of c.args.a.now in
    let n = model_of c.args.b.now in
    let b = c.same_operators.result in
    let even = slice_eq-Decides Decides-eqb _ _ _ c.eq.ensures in
    let both : (m.sizes ≡ n.sizes) × SameSet m.goal n.goal = elim c.if-eq.branch [
      | then-eq w ↦
          let goals = decides_at SameSet _ _ _ _ _ w.goal.ensures w.goal-then-eq.ensures (w.same_set.ensures (exact_from _ equal_facts)) in
          (sym c.sizes.ensures.value ∙ even.0 w.if-eq.true ∙ c.sizes-2.ensures.value, goals.0 (sym w.value-is ∙ c.if-same_set.true))
      | else-eq w ↦ cc
    ] in
    let acts = decides_at SameActions b _ m.operators _ n.operators c.operators.ensures c.operators-then-same_set.ensures c.same_operators.ensures in
    let d : Decides b (Same m n) = (λ t. record { sizes = both.0; goal = both.1; count = (acts.0 t).0; actions = (acts.0 t).1 }, λ h. acts.1 (h.count, h.actions)) in
    record {
      decides = d;
      alike = λ t. (alike m n c.sizes.ensures.rules c.sizes-2.ensures.rules (d.0 t), alike n m c.sizes-2.ensures.rules c.sizes.ensures.rules (same_back m n (d.0 t)));
    }

pub returns-else-same_set : goal.returns-else-same_set
returns-else-same_set c =
    let even = slice_eq-Decides Decides-eqb _ _ _ c.eq.ensures in
    record {
      decides = (
        λ e. cc,
        λ h. elim c.if-eq.branch [
          | then-eq w ↦
              let goals = decides_at SameSet _ _ _ _ _ w.goal.ensures w.goal-then-eq.ensures (w.same_set.ensures (exact_from _ equal_facts)) in
              w.value-is ∙ goals.1 h.goal
          | else-eq w ↦ let t = even.1 (c.sizes.ensures.value ∙ h.sizes ∙ sym c.sizes-2.ensures.value) in cc
        ],
      );
      alike = λ e. cc;
    }
