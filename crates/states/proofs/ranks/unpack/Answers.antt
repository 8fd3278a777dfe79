-- What is written is the state of the rank.
use Rattle.std.proofs.Common.{◌≡◌, length, get_or, sym, ap, ◌∙◌, subst, mod-lt, arith}
use Rattle.sas.specs.Ranks as Ranks
use Rattle.sas.specs.States.{State}
use Rattle.sas.proofs.Products.{sized_at}
use Rattle.sas.proofs.Unranks.{unrank, spread_more, spread_all, unrank_state, rank_unrank}
use Rattle.tasks.specs.View.{model_of}
use Rattle.states.proofs.ranks.unpack.Goals as goal

pub nonzero_rem-values : goal.nonzero_rem-values
nonzero_rem-values c = omega (arith, sized_at (model_of c.args.task.now) c.sizes-sizes.ensures.rules c.sizes-sizes.result.now c.sizes-sizes.ensures.value c.loop-i.i c.loop-i-test.true)

pub nonzero_div-rest : goal.nonzero_div-rest
nonzero_div-rest c = omega (arith, sized_at (model_of c.args.task.now) c.sizes-sizes.ensures.rules c.sizes-sizes.result.now c.sizes-sizes.ensures.value c.loop-i.i c.loop-i-test.true)

pub overflow_cast-values : goal.overflow_cast-values
overflow_cast-values c =
    let z = get_or c.sizes-sizes.result.now c.loop-i.i 0 in
    let sized = sized_at (model_of c.args.task.now) c.sizes-sizes.ensures.rules c.sizes-sizes.result.now c.sizes-sizes.ensures.value c.loop-i.i c.loop-i-test.true in
    omega (arith, sized, mod-lt c.loop-i.rest {m = z} (omega (arith, sized)))

pub loop-i-preserved : goal.loop-i-preserved
loop-i-preserved c = rw c.from-size.ensures (spread_more c.sizes-sizes.result.now c.loop-i.values c.loop-i.i c.loop-i.rest _ c.loop-i-test.true (omega (arith, c.loop-i.auto.values, c.requires.even, ap length c.sizes-sizes.ensures.value)) c.loop-i.invariant)

pub returns : goal.returns
returns c =
    let m = model_of c.args.task.now in
    let xs = c.sizes-sizes.result.now in
    let r = c.sizes-sizes.ensures.rules in
    let k = c.args.rank in
    let even : length c.loop-i.values ≡ length xs = omega (arith, c.loop-i.auto.values, c.requires.even, ap length c.sizes-sizes.ensures.value) in
    let is : c.loop-i.values ≡ unrank m.sizes k = spread_all xs c.loop-i.values c.loop-i.i c.loop-i.rest _ c.loop-i-test.false even c.loop-i.invariant ∙ ap (λ zs. unrank zs k) c.sizes-sizes.ensures.value in
    record {
      state = subst (State m.sizes) (sym is) (unrank_state m r k);
      value = ap (Ranks.rank m.sizes) is ∙ rank_unrank m r k c.requires.below;
    }
