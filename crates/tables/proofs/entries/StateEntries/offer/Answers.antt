-- A rank without an entry is put at the cost, and any other is left alone.
use Rattle.std.proofs.Common.{refl, arith}
use Rattle.tables.proofs.Offers.{offered_not, offered_put, put_accepted}
use Rattle.tables.proofs.entries.StateEntries.offer.Goals as goal

pub returns-else-self-rank : goal.returns-else-self-rank
returns-else-self-rank g c =
    record {
      ordered = c.requires.ordered;
      places = refl;
      offered = offered_not _ _ _ _ c.requires.below c.requires.unset _ c.if-self-rank.false;
    }

pub returns-then-self-rank : goal.returns-then-self-rank
returns-then-self-rank g c =
    let w = g.W.WaitingList in
    let a = put_accepted w.places w.waiting w.ordered _ _ _ _ c.put.result (omega (arith, c.requires.room, c.requires.below)) (c.put.ensures c.requires.ordered) in
    record {
      ordered = a.only.still;
      places = a.only.kept;
      offered = offered_put _ _ _ _ c.requires.below c.requires.unset _ _ c.if-self-rank.true a.here a.only.same;
    }
