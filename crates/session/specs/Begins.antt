-- What the beginning of a step leads to.
use Rattle.std.specs.Prelude.{◌≡◌, ℕ, cond, length, is_some, Some, Ok, Err, Result, nat_lt}
use Rattle.sas.specs.States.{Applies}
use Rattle.session.specs.Rows.{row_at}
use Rattle.session.specs.Bench.{Bench, with_step}
use Rattle.session.specs.declared.session.refusal.Refusal.{Refusal}
use Rattle.session.specs.declared.session.refusal.Refusal.TheVariants.{NoSuch, StepUnderWay, Barred, Unmet}

-- whether the step of o may begin in some state, and why not
abbrev pub hindered : ℕ → Bench → Result (Unit {0}) Refusal
hindered o b =
    cond (is_some b.step) (Err StepUnderWay) (cond (nat_lt o (length b.rows)) (cond (row_at b.rows o).barred (Err Barred) (Ok tt))
    (Err NoSuch))

-- then it begins exactly where o applies in the present state
abbrev pub BeginsUnless : Result (Unit {0}) Refusal → ℕ → Bench → Result Bench Refusal → Type 0
BeginsUnless (Err e) o b r = r ≡ Err e
BeginsUnless (Ok x) o b (Ok c) = Applies b.model o b.state × (c ≡ with_step b (Some o))
BeginsUnless (Ok x) o b (Err e) = (Applies b.model o b.state → ⊥) × (e ≡ Unmet)

abbrev pub Begins : ℕ → Bench → Result Bench Refusal → Type 0
Begins o b r = BeginsUnless (hindered o b) o b r
