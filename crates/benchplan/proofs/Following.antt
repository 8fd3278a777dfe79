-- A run, one step further along its operators.
use Rattle.std.proofs.Common.{◌≡◌, ℕ, ◌+◌, ◌<◌, ◌≤◌, Bool, true, false, List, IfSome, length, get_or, drop, refl, sym, ap, subst, arith}
use Rattle.std.specs.Bool.{then_some}
use Rattle.std.proofs.lemmas.List.{drop_more, drop_all}
use Rattle.sas.specs.Model.{Model}
use Rattle.sas.specs.Runs.{Run, stay, step, cost}
use Rattle.sas.specs.States.{State, Step, Goal}
use Rattle.benchplan.specs.Plans.{Any, Runs}

-- what is left of the steps runs on from here, and so much has been paid
pub record Along (m : Model) (costs start steps here : List ℕ) (i paid : ℕ) : Type 0 where
  pub onward : (t : List ℕ) → Run m Any here (drop i steps) t → Run m Any start steps t
  pub paid_so_far : paid + cost (λ o. get_or costs o 0) (drop i steps) ≡ cost (λ o. get_or costs o 0) steps

pub begun : (m : Model) (costs start steps : List ℕ) → Along m costs start steps start 0 0
begun m costs start steps = record { onward = λ t r. r; paid_so_far = omega arith }

pub further : (m : Model) (costs start steps here next : List ℕ) (i paid : ℕ) → i < length steps → Step m (get_or steps i 0) here next → Along m costs start steps here i paid → Along m costs start steps next (i + 1) (paid + get_or costs (get_or steps i 0) 0)
further m costs start steps here next i paid within moved a =
    let rest = drop_more steps i 0 within in
    let more = ap (cost (λ o. get_or costs o 0)) rest in
    record {
      onward = λ t r. a.onward t (subst (λ os. Run m Any here os t) (sym rest) (step tt moved r));
      paid_so_far = omega (arith, a.paid_so_far, more);
    }

goal_state : (m : Model) (s : List ℕ) → Goal m s → State m.sizes s
unfolding Goal
goal_state m s g = g.0

arrived : (m : Model) (costs start steps here : List ℕ) (i paid : ℕ) → length steps ≤ i → Goal m here → Along m costs start steps here i paid → Runs m start costs steps paid
arrived m costs start steps here i paid done goal a =
    let none = drop_all i steps done in
    let state = goal_state m here goal in
    record {
      end = here;
      run = a.onward here (subst (λ os. Run m Any here os here) (sym none) (stay state));
      goal = goal;
      sum = omega (arith, a.paid_so_far, ap (cost (λ o. get_or costs o 0)) none);
    }

-- the steps are a plan where the goal holds at their end
pub told : (m : Model) (costs start steps here : List ℕ) (i paid : ℕ) → length steps ≤ i → (b : Bool) → (b ≡ true → Goal m here) → Along m costs start steps here i paid → IfSome (then_some b paid) (λ c. Runs m start costs steps c)
told m costs start steps here i paid done true goal a = arrived m costs start steps here i paid done (goal refl) a
told m costs start steps here i paid done false goal a = tt
