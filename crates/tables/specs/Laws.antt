-- An opened table obeys the laws of an estimator in its own task.
use Rattle.std.specs.Prelude.{◌≡◌, ℕ, ◌<◌, ◌≤◌, Bool, true, false, cond, ◌⊎◌, List, length, nat_lt, Option, Some, None, refl}
use Rattle.std.proofs.Common.{sym, ◌∙◌, inl, inr, ⊎_elim, arith}
use Rattle.std.proofs.Math.Path.{ap, subst}
use Rattle.std.proofs.Math.Bridge.{le_prop}
use Rattle.std.proofs.lemmas.List.{get_or_past}
use Rattle.std.proofs.lemmas.Bool.{cond-true, cases_lt, lt-ltb}
use Rattle.estimators.specs.Heights.{Falls, Held, most}
use Rattle.projections.specs.Laws.{ProjectionLaws}
use Rattle.projections.specs.Projection.{among, only, projected}
use Rattle.projections.proofs.Folding.{folded_is}
use Rattle.projections.proofs.Projecting.{projection_laws, sizes_projected}
use Rattle.sas.specs.Model.{Model}
use Rattle.sas.specs.Ranks.{GoalRank, StepRank, rank, states}
use Rattle.sas.specs.Same.{Alike}
use Rattle.sas.specs.States.{State, operator}
use Rattle.sas.proofs.Moves.{goal_rank, goal_rank_inside, step_rank}
use Rattle.sas.proofs.Steps.{goal_is, step_laws}
use Rattle.sas.proofs.Unranks.{rank_below, rank_unrank, unrank, unrank_state}
use Rattle.tables.specs.Costs.{share}
use Rattle.tables.specs.Entries.{entry, height_at}
use Rattle.tables.specs.Estimates.{rank_in, share_in}
use Rattle.tables.specs.Opened.{Opened}

pub falls_prop : (w : ℕ) (x y : Option ℕ) → IsProp (Falls w x y)
falls_prop w (Some x) (Some y) a b = le_prop a b
falls_prop w None (Some y) a b = absurd a
falls_prop w x None a b = λ i. tt

pub held_prop : (x : Option ℕ) → IsProp (Held x)
held_prop None a b = λ i. tt
held_prop (Some x) a b = le_prop a b

falls_same : (w : ℕ) (x : Option ℕ) → Falls w x x
falls_same w None = tt
falls_same w (Some x) = omega arith

-- equal tasks have the same steps and goals by rank
pub goal_alike : (m n : Model) → Alike m n → (k : ℕ) → GoalRank m k → GoalRank n k
unfolding GoalRank
goal_alike m n a k g = (g.0, a.goal g.0 g.1, sym (a.ranks g.0) ∙ g.2)

pub step_alike : (m n : Model) → Alike m n → (o k l : ℕ) → StepRank m o k l → StepRank n o k l
unfolding StepRank
step_alike m n a o k l d = (d.0, d.1, a.step o d.0 d.1 d.2, sym (a.ranks d.0) ∙ d.3, sym (a.ranks d.1) ∙ d.4)

module _ (m : Model) (pattern : List ℕ) (p : Model) (places shares entries : List ℕ) (O : Opened m pattern p places shares entries) where
  abbrev q : Model
  q = projected (among pattern) m

  laws : ProjectionLaws (among pattern) m
  laws = projection_laws (among pattern) m O.rules

  -- the rank of the projection of a state
  pub rank_in_lem : (s : List ℕ) → State m.sizes s → rank_in m pattern (rank m.sizes s) ≡ rank (projected (among pattern) m).sizes (only (among pattern) s)
  rank_in_lem s h = folded_is (among pattern) m.sizes s h ∙ ap (λ z. rank z (only (among pattern) s)) (sym (sizes_projected (among pattern) m))

  rank_in_below : (k : ℕ) → k < states m → rank_in m pattern k < states q
  rank_in_below k l =
      let s = unrank m.sizes k in
      let h = unrank_state m O.rules k in
      let is : rank_in m pattern k ≡ rank q.sizes (only (among pattern) s) = ap (rank_in m pattern) (sym (rank_unrank m O.rules k l)) ∙ rank_in_lem s h in
      subst (λ n. n < states q) (sym is) (rank_below q (only (among pattern) s) (laws.states s h))

  pub opened_goal : (k : ℕ) → GoalRank m k → entry entries (rank_in m pattern k) ≡ 0
  unfolding GoalRank
  opened_goal k g =
      let s = g.0 in
      let r = goal_rank q (only (among pattern) s) (laws.goals s g.1) in
      ap (entry entries) (ap (rank_in m pattern) (sym g.2) ∙ rank_in_lem s ((goal_is m s).0 g.1).0) ∙ (O.opens.obeys (rank q.sizes (only (among pattern) s)) (goal_rank_inside q _ r)).goal r

  pub opened_step : (o k l : ℕ) → StepRank m o k l → Falls (share_in m pattern shares o) (height_at (entry entries (rank_in m pattern k))) (height_at (entry entries (rank_in m pattern l)))
  unfolding StepRank
  opened_step o k l d = subst (λ n. Falls (share_in m pattern shares o) (height_at (entry entries n)) (height_at (entry entries (rank_in m pattern l)))) (sym from) (subst (λ n. Falls (share_in m pattern shares o) (height_at (entry entries (rank q.sizes s))) (height_at (entry entries n))) (sym onto) (on (cases_lt 0 count)))
    where
      s : List ℕ
      s = only (among pattern) d.0

      t : List ℕ
      t = only (among pattern) d.1

      count : ℕ
      count = length (operator q o).effects

      from : rank_in m pattern k ≡ rank q.sizes s
      from = ap (rank_in m pattern) (sym d.3) ∙ rank_in_lem d.0 ((step_laws m O.rules).from_state o d.0 d.1 d.2)

      onto : rank_in m pattern l ≡ rank q.sizes t
      onto = ap (rank_in m pattern) (sym d.4) ∙ rank_in_lem d.1 ((step_laws m O.rules).to_state o d.0 d.1 d.2)

      on : (0 < count) ⊎ (count ≤ 0) → Falls (share_in m pattern shares o) (height_at (entry entries (rank q.sizes s))) (height_at (entry entries (rank q.sizes t)))
      on (inl some) =
          let e = step_rank q o s t (laws.steps o d.0 d.1 d.2 some) in
          let below = rank_below q s (laws.states d.0 ((step_laws m O.rules).from_state o d.0 d.1 d.2)) in
          subst (λ w. Falls w (height_at (entry entries (rank q.sizes s))) (height_at (entry entries (rank q.sizes t)))) (sym (cond-true (nat_lt 0 count) (share shares o) 0 (lt-ltb 0 count some)))
          ((O.opens.obeys (rank q.sizes s) below).step o (rank q.sizes t) (some, e))
      on (inr none) = subst (λ x. Falls (share_in m pattern shares o) (height_at (entry entries (rank q.sizes s))) (height_at (entry entries (rank q.sizes x)))) (sym (laws.stays o d.0 d.1 d.2 (λ some. omega arith))) (falls_same _ (height_at (entry entries (rank q.sizes s))))

  share_light : (o : ℕ) → share shares o ≤ 65535
  share_light o = ⊎_elim (λ l. O.opens.input.light o l) (λ l. omega (arith, get_or_past shares o 0 l)) (cases_lt o (length shares))

  pub opened_light : (o : ℕ) → share_in m pattern shares o ≤ most
  opened_light o = on (nat_lt 0 (length (operator q o).effects))
    where
      on : (b : Bool) → cond b (share shares o) 0 ≤ most
      on true = omega (arith, share_light o)
      on false = omega arith

  pub opened_low : (k : ℕ) → k < states m → Held (height_at (entry entries (rank_in m pattern k)))
  opened_low k l = (O.opens.obeys (rank_in m pattern k) (rank_in_below k l)).held

  pub opened_idle : (o : ℕ) → length m.operators ≤ o → share_in m pattern shares o ≡ 0
  opened_idle o l = on (nat_lt 0 (length (operator q o).effects))
    where
      on : (b : Bool) → cond b (share shares o) 0 ≡ 0
      on true = get_or_past shares o 0 (omega (arith, O.opens.input.count, l))
      on false = refl
