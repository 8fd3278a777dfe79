-- The digits of the choice come to the places of the variables.
use Rattle.std.proofs.Common.{arith}
use Rattle.projections.proofs.Digits.{offset_turn, scaled_few}
use Rattle.projections.proofs.axes.Axes.offset_of.Goals as goal

pub loop-f-preserved : goal.loop-f-preserved
loop-f-preserved c =
    let i = c.loop-f.f-index in
    let axes = c.args.self.now.list.items in
    let x = c.index-axis.result.now in
    let l = c.requires.inside i (record { variable = 0; value = 0 }) c.loop-f-test.true in
    record {
      few = omega (arith, scaled_few axes c.from.result x (omega (arith, l, c.from.ensures)) c.index-axis.ensures c.loop-f.rest c.from-in-loop-f.result c.from-in-loop-f.ensures, c.loop-f.invariant.few);
      whole = offset_turn axes c.args.self.now.scaled c.args.variables.now i c.loop-f-test.true c.from.result x c.from.ensures (omega (arith, l, c.from.ensures)) c.index-axis.ensures c.from-in-loop-f.result c.from-rest.result c.loop-f.sum c.loop-f.rest _ c.from-in-loop-f.ensures c.from-rest.ensures c.loop-f.invariant.whole;
    }
