-- The sum is the rank in Horner's form, and stays below the number of states.
use Rattle.std.proofs.Common.{◌<◌, sym, ◌∙◌, refl, subst, arith}
use Rattle.sas.specs.Ranks as Ranks
use Rattle.sas.proofs.Horner.{rank_horner}
use Rattle.sas.proofs.Unranks.{rank_below, rank_apart}
use Rattle.tasks.specs.View.{model_of}
use Rattle.states.proofs.Sums.{fits, further, turned, ended}
use Rattle.states.proofs.ranks.rank.Goals as goal

pub overflow_mul-sum : goal.overflow_mul-sum
overflow_mul-sum c = omega (arith, fits (turned c.loop-value.value-iterator c.next.new.self _ _ c.from.result _ c.loop-value.invariant c.in-Some.is c.next.ensures.steps (cc) refl), c.sizes-sizes.ensures.rules.few_states)

pub overflow_add-sum : goal.overflow_add-sum
overflow_add-sum c = omega (arith, fits (turned c.loop-value.value-iterator c.next.new.self _ _ c.from.result _ c.loop-value.invariant c.in-Some.is c.next.ensures.steps (cc) refl), c.sizes-sizes.ensures.rules.few_states)

pub overflow_mul-coefficient : goal.overflow_mul-coefficient
overflow_mul-coefficient c = omega (arith, fits (turned c.loop-value.value-iterator c.next.new.self _ _ c.from.result c.from-coefficient.result c.loop-value.invariant c.in-Some.is c.next.ensures.steps (cc) (cc)), c.sizes-sizes.ensures.rules.few_states)

pub loop-value-preserved : goal.loop-value-preserved
loop-value-preserved c = further (turned c.loop-value.value-iterator c.next.new.self _ _ c.from.result c.from-coefficient.result c.loop-value.invariant c.in-Some.is c.next.ensures.steps (cc) (cc))

pub returns : goal.returns
returns c =
    let m = model_of c.args.task.now in
    let s = c.args.values.now in
    let h = c.is_state.ensures.0 c.if-not-is_state.false in
    let value = ended c.loop-value.value-iterator c.next.new.self _ c.loop-value.invariant c.in-None.is c.next.ensures.steps ∙ sym (rank_horner m.sizes s) in
    record {
      state = h;
      value = value;
      below = subst (λ k. k < Ranks.states m) (sym value) (rank_below m s h);
      only = λ t ht e. rank_apart m.sizes t s ht h (e ∙ value);
    }
