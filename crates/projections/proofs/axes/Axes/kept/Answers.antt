-- A variable is kept with its coefficients, or passed.
use Rattle.std.proofs.Common.{vec_items, refl, ap, arith}
use Rattle.projections.specs.Projection.{among}
use Rattle.projections.proofs.Laying.{kept_all, kept_passed, kept_pushed, kept_rules, place_few}
use Rattle.projections.proofs.axes.Axes.kept.Goals as goal
use Rattle.projections.proofs.axes.Axes.kept.Goals.{then-has+in_ok-push, else-has}

pub invariant_of-push : goal.invariant_of-push
invariant_of-push c =
    let l = c.loop-variable in
    let rules = kept_rules (among c.args.pattern.now) c.args.sizes.now c.requires.sized c.requires.few l.list.items l.coefficient l.whole_coefficient l.variable l.invariant c.loop-variable-test.true c.has.result c.has.ensures c.if-has.true in
    record { sized = rules.0; scaled = rules.1; placed = rules.2; few = rules.3 }

pub overflow_mul-whole_coefficient : goal.overflow_mul-whole_coefficient
overflow_mul-whole_coefficient c =
    let l = c.loop-variable in
    omega (arith, place_few (among c.args.pattern.now) c.args.sizes.now c.requires.sized c.requires.few l.list.items l.coefficient l.whole_coefficient l.variable l.invariant c.loop-variable-test.true c.from-whole_coefficient.result c.from-whole_coefficient.ensures)

pub loop-variable-preserved : goal.loop-variable-preserved
loop-variable-preserved c =
    let l = c.loop-variable in
    elim c.if-has.branch [
      | then-has+in_ok-push w ↦ kept_pushed (among c.args.pattern.now) c.args.sizes.now c.requires.sized c.requires.few l.list.items l.coefficient l.whole_coefficient l.variable l.invariant c.loop-variable-test.true c.has.result c.has.ensures w.if-has.true _ refl refl refl (vec_items w.push.new.self) (vec_items c.if-has.list) w.in_ok-push.ensures.items (ap vec_items w.list-is) c.if-has.coefficient w.from-coefficient.result c.from-whole_coefficient.result w.coefficient-is w.from-coefficient.ensures c.from-whole_coefficient.ensures
      | else-has w ↦ kept_passed (among c.args.pattern.now) c.args.sizes.now c.requires.sized c.requires.few l.list.items l.coefficient l.whole_coefficient l.variable l.invariant c.loop-variable-test.true c.has.result c.has.ensures w.if-has.false (vec_items c.if-has.list) (ap vec_items w.list-is) c.if-has.coefficient c.from-whole_coefficient.result w.coefficient-is c.from-whole_coefficient.ensures
    ]

pub invariant_of-result : goal.invariant_of-result
invariant_of-result c =
    let l = c.loop-variable in
    record { few = (kept_all (among c.args.pattern.now) c.args.sizes.now c.requires.sized c.requires.few l.list.items l.coefficient l.whole_coefficient l.variable l.invariant c.loop-variable-test.false).2; scaled = l.invariant.scaled }

pub returns : goal.returns
returns c =
    let l = c.loop-variable in
    let all = kept_all (among c.args.pattern.now) c.args.sizes.now c.requires.sized c.requires.few l.list.items l.coefficient l.whole_coefficient l.variable l.invariant c.loop-variable-test.false in
    record { sizes = all.0; places = all.1 }
