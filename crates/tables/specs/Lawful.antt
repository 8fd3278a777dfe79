-- A table is a lawful estimator for every task equal to its own.
use Rattle.std.specs.Prelude.{◌≡◌, ℕ, ◌<◌, ◌≤◌, length, vec_items, nat_lt, Some, None}
use Rattle.std.proofs.Common.{sym, ap, subst, ◌∙◌, ⊎_elim, arith}
use Rattle.std.proofs.Math.Logic.{∥∥₁_elim}
use Rattle.std.proofs.Math.Bridge.{le_prop}
use Rattle.std.proofs.Math.Nat.{ℕ_set}
use Rattle.std.proofs.lemmas.Bool.{cond-true, cond-false, cases_lt, lt-ltb, le-ltb}
use Rattle.estimators.specs.Heights.{Falls, Held}
use Rattle.estimators.specs.Laws.{EstimatorLaws}
use Rattle.projections.specs.View.{places_of, view_of}
use Rattle.sas.specs.Model.{Model, Rules}
use Rattle.sas.specs.Ranks.{GoalRank, StepRank, states}
use Rattle.sas.specs.Same.{Same, Alike}
use Rattle.sas.proofs.Alike.{alike, same_back}
use Rattle.sas.proofs.Moves.{goal_rank_inside, step_rank_inside}
use Rattle.sas.proofs.Rules.{rules}
use Rattle.tasks.specs.View.{model_of}
use Rattle.tables.specs.Entries.{entry, height_at}
use Rattle.tables.specs.Estimates.{rank_in}
use Rattle.tables.specs.Laws.{falls_prop, goal_alike, held_prop, opened_goal, opened_idle, opened_light, opened_low, opened_step, step_alike}
use Rattle.tables.specs.Tables.{table_heights, table_shares, table_suits}
use Rattle.tables.specs.declared.table.Table.{Table}

module _ (t : Table) where
  abbrev m : Model
  m = model_of t.own

  -- the height of a rank of the task, and of any other
  pub inside : (k : ℕ) → k < states m → table_heights t k ≡ height_at (entry t.entries.now (rank_in m (vec_items t.pattern) k))
  inside k l = cond-true (nat_lt k (states m)) (height_at (entry t.entries.now (rank_in m (vec_items t.pattern) k))) None (lt-ltb k (states m) l)

  pub outside : (k : ℕ) → states m ≤ k → table_heights t k ≡ None
  outside k l = cond-false (nat_lt k (states m)) (height_at (entry t.entries.now (rank_in m (vec_items t.pattern) k))) None (le-ltb k (states m) l)

  own_rules : Rules m
  own_rules = rules m t.own.rules

  goal_own : (k : ℕ) → GoalRank m k → table_heights t k ≡ Some 0
  goal_own k g =
      let e = ∥∥₁_elim t.opened (ℕ_set (entry t.entries.now (rank_in m (vec_items t.pattern) k)) 0) (λ O. opened_goal m (vec_items t.pattern) (view_of t.projection) (places_of t.projection) (vec_items t.shares) t.entries.now O k g) in
      inside k (goal_rank_inside m k g) ∙ ap height_at e

  step_own : (o k l : ℕ) → StepRank m o k l → Falls (table_shares t o) (table_heights t k) (table_heights t l)
  step_own o k l d =
      let within = step_rank_inside m own_rules o k l d in
      let x = height_at (entry t.entries.now (rank_in m (vec_items t.pattern) k)) in
      let y = height_at (entry t.entries.now (rank_in m (vec_items t.pattern) l)) in
      let f = ∥∥₁_elim t.opened (falls_prop (table_shares t o) x y) (λ O. opened_step m (vec_items t.pattern) (view_of t.projection) (places_of t.projection) (vec_items t.shares) t.entries.now O o k l d) in
      subst (λ h. Falls (table_shares t o) h (table_heights t l)) (sym (inside k within.0)) (subst (Falls (table_shares t o) x) (sym (inside l within.1)) f)

  light : (o : ℕ) → table_shares t o ≤ 1099511627776
  light o = ∥∥₁_elim t.opened le_prop (λ O. opened_light m (vec_items t.pattern) (view_of t.projection) (places_of t.projection) (vec_items t.shares) t.entries.now O o)

  low : (k : ℕ) → Held (table_heights t k)
  low k = ⊎_elim
      (λ l. subst Held (sym (inside k l)) (∥∥₁_elim t.opened (held_prop (height_at (entry t.entries.now (rank_in m (vec_items t.pattern) k)))) (λ O. opened_low m (vec_items t.pattern) (view_of t.projection) (places_of t.projection) (vec_items t.shares) t.entries.now O k l)))
      (λ l. subst Held (sym (outside k l)) tt)
      (cases_lt k (states m))

  idle_own : (o : ℕ) → length m.operators ≤ o → table_shares t o ≡ 0
  idle_own o l = ∥∥₁_elim t.opened (ℕ_set (table_shares t o) 0) (λ O. opened_idle m (vec_items t.pattern) (view_of t.projection) (places_of t.projection) (vec_items t.shares) t.entries.now O o l)

  -- from a task that is equal to its own
  from_same : (n : Model) → Rules n → Same m n → Alike n m
  from_same n r same = alike n m r own_rules (same_back m n same)

pub table_lawful : EstimatorLaws table_suits table_shares table_heights
table_lawful = record {
  goal = λ t n r suits k g. goal_own t k (goal_alike n (m t) (from_same t n r suits) k g);
  step = λ t n r suits o k l d. step_own t o k l (step_alike n (m t) (from_same t n r suits) o k l d);
  light = light;
  low = low;
  idle = λ t n r suits o l. idle_own t o (omega (arith, l, suits.count));
  outside = λ t n r suits k l. outside t k (omega (arith, l, (from_same t n r suits).count));
}
