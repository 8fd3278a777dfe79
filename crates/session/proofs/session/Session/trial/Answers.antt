-- The row that a trial puts back is the one that it found.
use Rattle.session.specs.Bench.{bench}
use Rattle.session.proofs.Back.{here, back}
use Rattle.session.proofs.session.Session.trial.Goals as goal
use Rattle.session.proofs.session.Session.trial.Goals.{in-Ok, in_default}

pub returns-clause-back : goal.returns-clause-back
returns-clause-back c = elim c.match-tried.branch [
  | in-Ok w ↦ rw w.self-is (back (bench c.args.self.now) _ _ _ _ w.put.ensures c.at-old.ensures)
  | in_default w ↦ rw w.self-is (here (bench c.args.self.now) _ _ c.at-old.ensures)
]
