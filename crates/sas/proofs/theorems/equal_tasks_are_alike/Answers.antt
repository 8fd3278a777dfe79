-- The theorem is a lemma of the crate.
use Rattle.sas.proofs.Alike.{alike}
use Rattle.sas.proofs.theorems.equal_tasks_are_alike.Goals as goal

pub returns : goal.returns
returns c = alike
