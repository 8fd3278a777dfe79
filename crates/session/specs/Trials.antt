-- What a trial does to its session, and what is left when it ends.
use Rattle.std.specs.Prelude.{ℕ, Bool, cond, length, is_some, Ok, Err, Result, nat_lt}
use Rattle.session.specs.Answers.{leads}
use Rattle.session.specs.Bench.{Bench, bench, with_row}
use Rattle.session.specs.declared.session.refusal.Refusal.{Refusal}
use Rattle.session.specs.declared.session.refusal.Refusal.TheVariants.{NoSuch, CostTooHigh, StepUnderWay}
use Rattle.session.specs.declared.session.trial.Trial.{Trial}

-- whether a trial is taken, and why it is refused
abbrev pub untried : ℕ → ℕ → Bench → Result (Unit {0}) Refusal
untried o cost b =
    cond (is_some b.step) (Err StepUnderWay) (cond (nat_lt o (length b.rows)) (cond (nat_lt cost 65536) (Ok tt) (Err CostTooHigh)) (Err NoSuch))

-- the bench while a trial lasts: a refused one changes nothing
abbrev pub trying : Result (Unit {0}) Refusal → ℕ → ℕ → Bool → Bench → Bench
trying (Ok x) o cost barred b = with_row b o (record { cost = cost; barred = barred })
trying (Err e) o cost barred b = b

-- the bench once the trial has ended
abbrev pub ended : Trial → Bench
ended t = with_row (bench t.session.now) t.operator t.old

-- a trial that ends at once
abbrev pub tried : ℕ → ℕ → Bench → Result Bench Refusal
tried o cost b = leads (untried o cost b) b
