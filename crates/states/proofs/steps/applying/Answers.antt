-- The tests of the number, the state and the preconditions decide whether the operator applies.
use Rattle.std.proofs.Common.{◌≡◌, ℕ, ◌<◌, ◌≤◌, Bool, None, List, length, get_or, map, Decides, rules, ap, ◌∙◌, subst, arith}
use Rattle.std.specs.List.{AllByRecursion}
use Rattle.std.proofs.lemmas.Iterator.{YieldsList-from_slice}
use borrow.Author.Tests.{tests}
use Rattle.sas.specs.declared.Precondition.{Precondition}
use Rattle.sas.specs.States.{Applies, Holds, State}
use Rattle.sas.proofs.Rules as Rules
use Rattle.sas.proofs.Steps.{applies_is, applies_decides}
use Rattle.tasks.specs.Parts.{action}
use Rattle.tasks.specs.View.{model_of}
use Rattle.tasks.specs.declared.task.Operator.{Operator}
use Rattle.tasks.specs.declared.task.Task.{Task}
use Rattle.states.proofs.Each.{all_decides}
use Rattle.states.proofs.Numbered.{operator_count, operator_read}
use Rattle.states.proofs.steps.applying.Goals as goal
use Rattle.states.proofs.steps.applying.Goals.{else-is_state-via-then-is_state+else-all, else-is_state-via-else-is_state}

-- the test of what the operator that was read asks decides
told : (t : Task) (o : ℕ) (s : List ℕ) (xs : List Operator) (x : Operator) (ps : List Precondition) (b : Bool) → map action xs ≡ (model_of t).operators → o < length xs → x ≡ get_or xs o x → ps ≡ (action x).preconditions → State (model_of t).sizes s → Decides b (AllByRecursion (λ p. (p.variable < length s) × Holds p s) ps) → Decides b (Applies (model_of t) o s)
told t o s xs x ps b is within read asked h each =
    let m = model_of t in
    applies_decides m (Rules.rules m t.rules) o s b (omega (arith, operator_count m xs is)) h (subst (λ qs. Decides b (AllByRecursion (λ p. (p.variable < length s) × Holds p s) qs)) (asked ∙ ap (λ a. a.preconditions) (operator_read m xs o x is within read)) each)

pub returns-in_err-one : goal.returns-in_err-one
returns-in_err-one c =
    let m = model_of c.args.task.now in
    let past : length c.operators.result.now ≤ c.args.operator = search (rules, tests) in
    let none : c.from_residual.result ≡ None = search (rules, tests) in
    rw none (λ a. omega (arith, ((applies_is m c.args.operator c.args.values.now).0 a).0, operator_count m c.operators.result.now c.operators.ensures))

pub returns-then-all : goal.returns-then-all
unfolding Holds
returns-then-all c =
    let s = c.args.values.now in
    let xs = c.operators.result.now in
    let x = c.in_ok-one.one.now in
    let found = c.in_ok-one.ensures.lookup in
    let each = all_decides (λ p. (p.variable < length s) × Holds p s) c.all.new.self _ c.all.result c.all.ensures.ran (YieldsList-from_slice c.preconditions.result.now cc) (λ y b q k. search rules) in
    let decides = told c.args.task.now c.args.operator s xs x c.preconditions.result.now c.all.result c.operators.ensures found.3.0 found.1 c.preconditions.ensures (c.is_state.ensures.0 c.if-is_state.true) each in
    (decides.0 c.if-all.true, operator_read (model_of c.args.task.now) xs c.args.operator x c.operators.ensures found.3.0 found.1)

pub returns-else-is_state : goal.returns-else-is_state
unfolding Holds
returns-else-is_state c =
    let s = c.args.values.now in
    let found = c.in_ok-one.ensures.lookup in
    elim c.else-is_state.branch [
      | else-is_state-via-then-is_state+else-all w ↦
          let each = all_decides (λ p. (p.variable < length s) × Holds p s) w.all.new.self _ w.all.result w.all.ensures.ran (YieldsList-from_slice w.preconditions.result.now cc) (λ y b q k. search rules) in
          let decides = told c.args.task.now c.args.operator s c.operators.result.now c.in_ok-one.one.now w.preconditions.result.now w.all.result c.operators.ensures found.3.0 found.1 w.preconditions.ensures (c.is_state.ensures.0 w.if-is_state.true) each in
          (λ a. let t = decides.1 a in cc)
      | else-is_state-via-else-is_state w ↦ (λ a. let t = c.is_state.ensures.1 ((applies_is (model_of c.args.task.now) c.args.operator s).0 a).1 in cc)
    ]
