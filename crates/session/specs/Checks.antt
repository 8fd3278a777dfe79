-- What a check of given steps finds, in the words of runs.
use Rattle.std.specs.Prelude.{◌≡◌, ℕ, ◌<◌, ◌≤◌, true, false, List, length, take, is_some, Some, None, Ok, Err, Option, Result, slice_index}
use Rattle.sas.specs.Runs.{Run, cost}
use Rattle.sas.specs.States.{Applies, Goal, Step}
use Rattle.session.specs.Rows.{row_at}
use Rattle.session.specs.Bench.{Bench}
use Rattle.session.specs.Changes.{held}
use Rattle.session.specs.declared.session.check.CheckFault.{CheckFault}
use Rattle.session.specs.declared.session.check.CheckFault.TheVariants.{Busy, At, NoGoal}
use Rattle.session.specs.declared.session.refusal.Refusal.{Refusal}
use Rattle.session.specs.declared.session.refusal.Refusal.TheVariants.{NoSuch, CostTooHigh, StepUnderWay, Barred, Unmet, NoStep, OutsideGoal, Memory}

abbrev pub refusal_of : CheckFault → Refusal
refusal_of Busy = StepUnderWay
refusal_of (At i e) = e
refusal_of NoGoal = OutsideGoal

abbrev pub step_of : CheckFault → Option ℕ
step_of Busy = None
step_of (At i e) = Some i
step_of NoGoal = None

-- the cost of an operator by its row, and that its row has no bar
abbrev pub cost_in : Bench → ℕ → ℕ
cost_in b o = (row_at b.rows o).cost

abbrev pub Unbarred : Bench → ℕ → Type 0
Unbarred b o = (row_at b.rows o).barred ≡ false

-- the steps os run by unbarred operators from the present state to t
abbrev pub Runs : Bench → List ℕ → List ℕ → Type 0
Runs b os t = Run b.model (Unbarred b) b.state os t

-- why o cannot be the next step in t
abbrev pub Halts : Bench → ℕ → List ℕ → Refusal → Type 0
Halts b o t NoSuch = length b.rows ≤ o
Halts b o t CostTooHigh = ⊥
Halts b o t StepUnderWay = ⊥
Halts b o t Barred = (o < length b.rows) × ((row_at b.rows o).barred ≡ true)
Halts b o t Unmet = (o < length b.rows) × Unbarred b o × (Applies b.model o t → ⊥)
Halts b o t NoStep = ⊥
Halts b o t OutsideGoal = ⊥
Halts b o t Memory = ⊥

-- the first i of the steps run, to a state in which the next one halts
abbrev pub StopsAt : Bench → List ℕ → ℕ → Refusal → Type 0
StopsAt b os i e = (i < length os) × ((t : List ℕ) × Runs b (take i os) t × Halts b (slice_index os i) t e)

abbrev pub Faulty : Bench → List ℕ → CheckFault → Type 0
Faulty b os Busy = is_some b.step ≡ true
Faulty b os (At i e) = (b.step ≡ None) × StopsAt b os i e
Faulty b os NoGoal = (b.step ≡ None) × ((t : List ℕ) × Runs b os t × (Goal b.model t → ⊥))

-- the cost of a run to a goal state, or the first fault
abbrev pub Checked : Bench → List ℕ → Result ℕ CheckFault → Type 0
Checked b os (Ok c) = (b.step ≡ None) × ((t : List ℕ) × Runs b os t × Goal b.model t) × (c ≡ held (cost (cost_in b) os))
Checked b os (Err e) = Faulty b os e

-- one step from s to t and its cost, or why it halts in s
abbrev pub Went : Bench → ℕ → List ℕ → List ℕ → Result ℕ Refusal → Type 0
Went b o s t (Ok c) = Unbarred b o × Step b.model o s t × (c ≡ cost_in b o)
Went b o s t (Err e) = Halts b o s e

-- the steps run to t at a cost, or stop
abbrev pub Halted : Bench → List ℕ → CheckFault → Type 0
Halted b os Busy = ⊥
Halted b os (At i e) = StopsAt b os i e
Halted b os NoGoal = ⊥

abbrev pub Followed : Bench → List ℕ → List ℕ → Result ℕ CheckFault → Type 0
Followed b os t (Ok c) = Runs b os t × (c ≡ held (cost (cost_in b) os))
Followed b os t (Err e) = Halted b os e
