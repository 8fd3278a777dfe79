-- What a call answers, and what it leaves of its session.
use Rattle.std.specs.Prelude.{◌≡◌, Ok, Err, Result, OnErr}
use Rattle.session.specs.Bench.{Bench, bench}
use Rattle.session.specs.declared.session.Session.{Session}

-- an answer with the bench after it
abbrev pub leads : {X E : Type 0} → Result X E → Bench → Result Bench E
leads (Ok x) b = Ok b
leads (Err e) b = Err e

-- the answer with the bench after it is r, and a refusal leaves the session as it was
pub record Answers {X E : Type 0} (answer : Result X E) (old new : Session) (r : Result Bench E) : Type 0 where
  pub answered : leads answer (bench new) ≡ r
  pub untouched : OnErr answer (new ≡ old)
