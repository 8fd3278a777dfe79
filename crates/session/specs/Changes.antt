-- What each change leads to: the bench after it, or why it is refused.
use Rattle.std.specs.Prelude.{ℕ, ◌+◌, min, Bool, false, cond, length, is_some, Some, None, Ok, Err, Option, Result, ◌==◌, nat_lt, slice_index, slice_set}
use Rattle.sas.specs.States.{operator, outcome}
use Rattle.session.specs.Rows.{row_at, with_cost, with_bar}
use Rattle.session.specs.Bench.{Bench, with_rows, with_state, with_step, with_wear}
use Rattle.session.specs.declared.session.refusal.Refusal.{Refusal}
use Rattle.session.specs.declared.session.refusal.Refusal.TheVariants.{NoSuch, CostTooHigh, StepUnderWay, NoStep}

-- the bench after a call: a refused one changes nothing
abbrev pub kept : Bench → Result Bench Refusal → Bench
kept b (Ok c) = c
kept b (Err e) = b

-- operator o gets the cost c
abbrev pub costed : ℕ → ℕ → Bench → Result Bench Refusal
costed o c b =
    cond (nat_lt o (length b.rows)) (cond (nat_lt c 65536) (Ok (with_rows b (with_cost b.rows o c))) (Err CostTooHigh)) (Err NoSuch)

-- operator o is barred or freed
abbrev pub barred_by : Bool → ℕ → Bench → Result Bench Refusal
barred_by barred o b = cond (nat_lt o (length b.rows)) (Ok (with_rows b (with_bar b.rows o barred))) (Err NoSuch)

-- variable v gets the value x
abbrev pub placed : ℕ → ℕ → Bench → Result Bench Refusal
placed v x b =
    cond (is_some b.step) (Err StepUnderWay) (cond (nat_lt v (length b.model.sizes)) (cond (nat_lt x (slice_index b.model.sizes v))
    (Ok (with_state b (slice_set b.state v x))) (Err NoSuch)) (Err NoSuch))

-- the step under way is of o
abbrev pub under : Option ℕ → ℕ → Bool
under None o = false
under (Some p) o = p == o

-- sums are held at 2^40
abbrev pub held : ℕ → ℕ
held n = min n 1099511627776

-- the step of o ends: done, with its effects put in and its cost added to the wear, or left
abbrev pub finished : ℕ → Bench → Result Bench Refusal
finished o b =
    cond (under b.step o)
    (Ok (with_wear (with_state (with_step b None) (outcome (operator b.model o).effects b.state)) (held (b.wear + (row_at b.rows o).cost))))
    (Err NoStep)

abbrev pub left : ℕ → Bench → Result Bench Refusal
left o b = cond (under b.step o) (Ok (with_step b None)) (Err NoStep)
