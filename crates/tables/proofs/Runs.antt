-- The search from its start to its end.
use Rattle.std.proofs.Common.{◌≡◌, ℕ, zero, suc, ◌+◌, ◌*◌, ◌<◌, ◌≤◌, Bool, true, false, cond, eqb, ltb, ◌⊎◌, List, length, get_or, set, Some, None, Option, sym, refl, ap, ◌∙◌, subst, inl, inr, ⊎_elim, arith, length-set, get_or-set_other, get_or-set_same}
use native.Mathlib.Decide.{ℕ_discrete}
use Rattle.std.proofs.lemmas.Bool.{cond-true, cond-false, lt-ltb, le-ltb, eq-eqb, ne_eqb, leb-true, cases_lt, cases_eq}
use Rattle.bestfirst.specs.Problem.{Alive}
use Rattle.bestfirst.specs.Search.{blank, waiting, opened, Next, Put, Idle}
use Rattle.bestfirst.specs.Table.{height_of, Ahead}
use Rattle.bestfirst.proofs.States.{above_same, waiting_same, waiting≢opened, blank≢waiting}
use Rattle.bestfirst.proofs.Steps.{init}
use Rattle.bestfirst.proofs.Steps.{take as take_next}
use Rattle.bestfirst.proofs.Tables.{table_exact, table_dead}
use Rattle.estimators.specs.Heights.{most}
use Rattle.keys.specs.Orders.{by_number}
use Rattle.keys.specs.declared.Distance.{Distance}
use Rattle.lists.specs.Waits.{lower}
use Rattle.projections.specs.Shapes.{Shaped}
use Rattle.sas.specs.Model.{Model}
use Rattle.sas.specs.Ranks.{GoalRank, states}
use Rattle.sas.proofs.Moves.{goal_rank_inside}
use Rattle.tables.specs.Backwards.{forward, back, slot, entry_at, progress, Unset, Left, Fixed, Looking, Sofar, Capped}
use Rattle.tables.specs.Costs.{mark}
use Rattle.tables.specs.Going.{Going, Seeded, marks}
use Rattle.tables.proofs.Looks.{left_start, left_end}

pub few_states : (p : Model) → Shaped p → states p ≤ 1048576
unfolding states
few_states p h = h.few_states

some_same : {d k : Distance} → Some d ≡ Some k → d ≡ k
some_same {d} {k} e = cc

none_some : {x : Option Distance} {d : Distance} → x ≡ None → x ≡ Some d → ⊥
none_some {x} {d} e f = let z : ◌≡◌ {A = ℕ} 0 1 = cc in omega arith

-- what waits, by the state
waits_is : (entries : List ℕ) (m : ℕ) (waits : ℕ → Option Distance) (v g : ℕ) → progress entries m waits v ≡ waiting g → (d : Distance) × (waits v ≡ Some d) × (d.0 ≡ g)
waits_is entries m waits v g e = on (waits v) refl e
  where
    not_waiting : (b : Bool) (x : ℕ) → cond b blank (opened x) ≡ waiting g → ⊥
    not_waiting true x q = blank≢waiting refl q
    not_waiting false x q = waiting≢opened q refl

    on : (o : Option Distance) → waits v ≡ o → slot o (entry_at entries m v) ≡ waiting g → (d : Distance) × (waits v ≡ Some d) × (d.0 ≡ g)
    on (Some d) q z = (d, q, waiting_same z)
    on None q z = absurd (not_waiting (eqb (entry_at entries m v) mark) (entry_at entries m v) z)

marks_bound : (l : List ℕ) (n : ℕ) → marks l n ≤ n
marks_bound l zero = omega arith
marks_bound l (suc n) = let r = marks_bound l n in on (eqb (get_or l n 0) mark) r
  where
    on : (b : Bool) → marks l n ≤ n → marks l n + cond b 1 0 ≤ suc n
    on true r = omega arith
    on false r = omega arith

marks_same : (l k : List ℕ) (n : ℕ) → ((v : ℕ) → v < n → get_or k v 0 ≡ get_or l v 0) → marks k n ≡ marks l n
marks_same l k zero h = refl
marks_same l k (suc n) h =
    ap (λ c. c + cond (eqb (get_or k n 0) mark) 1 0) (marks_same l k n (λ v q. h v (omega arith))) ∙ ap (λ x. marks l n + cond (eqb x mark) 1 0) (h n (omega arith))

pub marks_set : (l : List ℕ) (n t g : ℕ) → t < n → t < length l → get_or l t 0 ≡ mark → ¬ (g ≡ mark) → marks (set l t g) n + 1 ≡ marks l n
marks_set l zero t g h i e q = absurd (omega arith)
marks_set l (suc n) t g h i e q = on (cases_eq t n) (λ j. marks_set l n t g j i e q)
  where
    on : (t ≡ n) ⊎ (t ≡ n → ⊥) → (t < n → marks (set l t g) n + 1 ≡ marks l n) → marks (set l t g) n + cond (eqb (get_or (set l t g) n 0) mark) 1 0 + 1 ≡ marks l n + cond (eqb (get_or l n 0) mark) 1 0
    on (inl z) again =
        let low = marks_same l (set l t g) n (λ v j. get_or-set_other l t v g 0 (λ k. omega (arith, k, z))) in
        let new : ◌≡◌ {A = ℕ} (cond (eqb (get_or (set l t g) n 0) mark) 1 0) 0 = cond-false (eqb (get_or (set l t g) n 0) mark) 1 0 (ne_eqb (get_or (set l t g) n 0) mark (λ k. q (sym (subst (λ w. get_or (set l t g) w 0 ≡ g) z (get_or-set_same l t g 0 i)) ∙ k))) in
        let old : ◌≡◌ {A = ℕ} (cond (eqb (get_or l n 0) mark) 1 0) 1 = cond-true (eqb (get_or l n 0) mark) 1 0 (eq-eqb (get_or l n 0) mark (subst (λ w. get_or l w 0 ≡ mark) z e)) in
        omega (arith, low, new, old)
    on (inr z) again =
        let same : ◌≡◌ {A = ℕ} (cond (eqb (get_or (set l t g) n 0) mark) 1 0) (cond (eqb (get_or l n 0) mark) 1 0) = ap (λ x. cond (eqb x mark) 1 0) (get_or-set_other l t n g 0 (λ k. z (sym k))) in
        omega (arith, again (omega (arith, z)), same)

-- the start
pub begun : (p : Model) (each : ℕ → ℕ) (m long : ℕ) (entries : List ℕ) (waits : ℕ → Option Distance) → Fixed p each m long → ((k : ℕ) → k < m → get_or entries k 0 ≡ mark) → Seeded p m waits → Going p each m entries waits
begun p each m long entries waits F wiped S =
    record {
      level = 0;
      inv = init (back p each) (progress entries m waits) (record { sources = λ v h src e. source v src; only = λ v. only v (waits v) refl });
      unset = λ v d e. let o = S.only v d e in (o.0, wiped v o.0);
      capped = λ v d e. let o = S.only v d e in omega (arith, o.1, marks_bound entries m);
      small = λ v h. inl (wiped v h);
    }
  where
    source : (v : ℕ) → GoalRank p v → progress entries m waits v ≡ waiting 0
    source v g = let s = S.goals v (omega (arith, goal_rank_inside p v g, F.size)) g in ap (λ o. slot o (entry_at entries m v)) s.1 ∙ ap waiting s.2

    unmarked : (v : ℕ) → entry_at entries m v ≡ mark
    unmarked v = ⊎_elim (λ h. cond-true (ltb v m) (get_or entries v 0) mark (lt-ltb v m h) ∙ wiped v h) (λ h. cond-false (ltb v m) (get_or entries v 0) mark (le-ltb v m h)) (cases_lt v m)

    only : (v : ℕ) (o : Option Distance) → waits v ≡ o → (progress entries m waits v ≡ blank) ⊎ ((progress entries m waits v ≡ waiting 0) × GoalRank p v × Alive (back p each) v)
    only v None e = inl (ap (λ o. slot o (entry_at entries m v)) e ∙ cond-true (eqb (entry_at entries m v) mark) blank (opened (entry_at entries m v)) (eq-eqb (entry_at entries m v) mark (unmarked v)))
    only v (Some d) e =
        let o = S.only v d e in
        inr (ap (λ o. slot o (entry_at entries m v)) e ∙ ap waiting o.1, o.2, (0, refl))

-- a turn: t is taken at g and gets its entry
module _ (p : Model) (each : ℕ → ℕ) (m long : ℕ) (entries : List ℕ) (waits left : ℕ → Option Distance) (t : ℕ) (d : Distance)
    (F : Fixed p each m long) (G : Going p each m entries waits) (inside : length entries ≡ long)
    (here : waits t ≡ Some d) (least : (q : ℕ) (k : Distance) → waits q ≡ Some k → by_number d k ≡ true) (gone : left t ≡ None) (same : (q : ℕ) → (q ≡ t → ⊥) → left q ≡ waits q) where
  taken_below : t < m
  taken_below = (G.unset t d here).0

  taken_small : d.0 ≤ most
  taken_small = omega (arith, G.capped t d here, F.size, few_states p F.shaped)

  taken_looking : Looking p each m (length (set entries t d.0)) t d.0
  taken_looking =
      record {
        fixed = record { shaped = F.shaped; light = F.light; size = F.size; long = omega (arith, length-set entries t d.0, F.long, inside) };
        inside = taken_below;
        small = taken_small;
      }

  not_mark : ¬ (d.0 ≡ mark)
  not_mark e = omega (arith, taken_small, e)

  low : t < length entries
  low = omega (arith, taken_below, F.long, inside)

  put : Put (back p each) (progress entries m waits) t (opened d.0) (progress (set entries t d.0) m left)
  put = record { here = mine; there = λ w n. ap (λ o. slot o (entry_at (set entries t d.0) m w)) (same w n) ∙ ap (λ x. slot (waits w) (cond (ltb w m) x mark)) (get_or-set_other entries t w d.0 0 n) }
    where
      is : entry_at (set entries t d.0) m t ≡ d.0
      is = cond-true (ltb t m) (get_or (set entries t d.0) t 0) mark (lt-ltb t m taken_below) ∙ get_or-set_same entries t d.0 0 low

      mine : progress (set entries t d.0) m left t ≡ opened d.0
      mine = ap (λ o. slot o (entry_at (set entries t d.0) m t)) gone ∙ ap (λ x. cond (eqb x mark) blank (opened x)) is ∙ cond-false (eqb d.0 mark) blank (opened d.0) (ne_eqb d.0 mark not_mark)

  next : Next (back p each) (progress entries m waits) t d.0 0
  next =
      record {
        waits = ap (λ o. slot o (entry_at entries m t)) here;
        height = refl;
        least = λ w k j e a. let z : 0 ≡ j = above_same a in let x = waits_is entries m waits w k e in omega (arith, leb-true d.0 x.0.0 (least w x.0 x.1), x.2);
      }

  taken_unset : Unset (set entries t d.0) m left
  taken_unset v k e = on (ℕ_discrete v t)
    where
      on : Dec (v ≡ t) → (v < m) × (get_or (set entries t d.0) v 0 ≡ mark)
      on (yes z) = absurd (none_some gone (ap left (sym z) ∙ e))
      on (no z) = let u = G.unset v k (sym (same v z) ∙ e) in (u.0, get_or-set_other entries t v d.0 0 z ∙ u.1)

  taken_sofar : Sofar p each (set entries t d.0) m t d.0 (Left t 0) left
  taken_sofar =
      record {
        inv = left_start p each (set entries t d.0) m t d.0 left (take_next (back p each) G.level (progress entries m waits) (progress (set entries t d.0) m left) t d.0 0 G.inv next put);
        here = put.here;
        unset = taken_unset;
      }

  taken_marks : marks (set entries t d.0) m + 1 ≡ marks entries m
  taken_marks = marks_set entries m t d.0 taken_below low (G.unset t d here).1 not_mark

  -- and its steps are looked at
  turned : (after : ℕ → Option Distance) (n : ℕ) → length p.operators ≤ n → Sofar p each (set entries t d.0) m t d.0 (Left t n) after → Capped (d.0 + 65535) left after → Going p each m (set entries t d.0) after
  turned after n over S C =
      record {
        level = d.0 + 0;
        inv = left_end p each (set entries t d.0) m t d.0 n after over S;
        unset = S.unset;
        capped = λ v k e. ⊎_elim (λ q. old v k q (ℕ_discrete v t)) (λ q. omega (arith, q, taken_marks, G.capped t d here)) (C v k e);
        small = λ v h. tiny v h (ℕ_discrete v t);
      }
    where
      old : (v : ℕ) (k : Distance) → left v ≡ Some k → Dec (v ≡ t) → k.0 + 65535 * marks (set entries t d.0) m ≤ 65535 * m
      old v k q (yes z) = absurd (none_some gone (ap left (sym z) ∙ q))
      old v k q (no z) = omega (arith, taken_marks, G.capped v k (sym (same v z) ∙ q))

      tiny : (v : ℕ) → v < m → Dec (v ≡ t) → (get_or (set entries t d.0) v 0 ≡ mark) ⊎ (get_or (set entries t d.0) v 0 ≤ most)
      tiny v h (yes z) = inr (omega (arith, taken_small, ap (λ w. get_or (set entries t d.0) w 0) z ∙ get_or-set_same entries t d.0 0 low))
      tiny v h (no z) = subst (λ x. (x ≡ mark) ⊎ (x ≤ most)) (sym (get_or-set_other entries t v d.0 0 z)) (G.small v h)

  -- what holds in the turn
  pub record Turn : Type 0 where
    pub below : t < m
    pub looking : Looking p each m (length (set entries t d.0)) t d.0
    pub sofar : Sofar p each (set entries t d.0) m t d.0 (Left t 0) left
    pub fewer : marks (set entries t d.0) m + 1 ≡ marks entries m
    pub going : (after : ℕ → Option Distance) (n : ℕ) → length p.operators ≤ n → Sofar p each (set entries t d.0) m t d.0 (Left t n) after → Capped (d.0 + 65535) left after → Going p each m (set entries t d.0) after

  pub taken : Turn
  taken = record { below = taken_below; looking = taken_looking; sofar = taken_sofar; fewer = taken_marks; going = turned }

-- what an entry says of the runs from its rank to a goal
abbrev pub TellsRank : Model → (ℕ → ℕ) → ℕ → ℕ → Type 0
TellsRank p each k e =
    ((e ≡ mark) × ((c : ℕ) → Ahead (forward p each) (GoalRank p) k c → ⊥))
    ⊎ ((e ≤ most) × Ahead (forward p each) (GoalRank p) k e × ((c : ℕ) → Ahead (forward p each) (GoalRank p) k c → e ≤ c))

-- the end
pub finished : (p : Model) (each : ℕ → ℕ) (m : ℕ) (entries : List ℕ) (waits : ℕ → Option Distance) → Going p each m entries waits → ((q : ℕ) → waits q ≡ None) → (v : ℕ) → v < m → TellsRank p each v (get_or entries v 0)
finished p each m entries waits G none v h = on (G.small v h)
  where
    idle : Idle (back p each) (progress entries m waits)
    idle w g e = let x = waits_is entries m waits w g e in none_some (none w) x.1

    is : progress entries m waits v ≡ cond (eqb (get_or entries v 0) mark) blank (opened (get_or entries v 0))
    is = ap (λ o. slot o (entry_at entries m v)) (none v) ∙ ap (λ x. cond (eqb x mark) blank (opened x)) (cond-true (ltb v m) (get_or entries v 0) mark (lt-ltb v m h))

    on : (get_or entries v 0 ≡ mark) ⊎ (get_or entries v 0 ≤ most) → TellsRank p each v (get_or entries v 0)
    on (inl e) =
        let b : progress entries m waits v ≡ blank = is ∙ cond-true (eqb (get_or entries v 0) mark) blank (opened (get_or entries v 0)) (eq-eqb (get_or entries v 0) mark e) in
        inl (e, λ c. table_dead (forward p each) (GoalRank p) G.level (progress entries m waits) v c G.inv idle (ap height_of b))
    on (inr s) =
        let o : progress entries m waits v ≡ opened (get_or entries v 0) = is ∙ cond-false (eqb (get_or entries v 0) mark) blank (opened (get_or entries v 0)) (ne_eqb (get_or entries v 0) mark (λ z. omega (arith, s, z))) in
        let x = λ (c : ℕ). table_exact (forward p each) (GoalRank p) G.level (progress entries m waits) v (get_or entries v 0) c G.inv (ap height_of o) in
        inr (s, (x 0).0, λ c. (x c).1)

-- one more rank is seeded, or passed over
module _ (p : Model) (r : ℕ) (waits after : ℕ → Option Distance) (S : Seeded p r waits) where
  pub seeded_no : (GoalRank p r → ⊥) → Seeded p (r + 1) waits
  seeded_no fails =
      record {
        goals = λ v h t. ⊎_elim (λ e. absurd (fails (subst (GoalRank p) e t))) (λ n. S.goals v (omega (arith, h, n)) t) (cases_eq v r);
        only = λ v d e. let o = S.only v d e in (omega (arith, o.0), o.1, o.2);
      }

  pub seeded_yes : (k : Distance) → k.0 ≡ 0 → GoalRank p r → after r ≡ Some (lower by_number (waits r) k) → ((w : ℕ) → (w ≡ r → ⊥) → after w ≡ waits w) → Seeded p (r + 1) after
  seeded_yes k zero-key goal here there =
      record {
        goals = λ v h t. ⊎_elim (λ e. (k, ap after e ∙ mine, zero-key)) (λ n. let x = S.goals v (omega (arith, h, n)) t in (x.0, there v n ∙ x.1, x.2)) (cases_eq v r);
        only = λ v d e. ⊎_elim
            (λ z. (omega (arith, z), ap (λ x. x.0) (some_same (sym e ∙ (ap after z ∙ mine))) ∙ zero-key, subst (GoalRank p) (sym z) goal))
            (λ n. let o = S.only v d (sym (there v n) ∙ e) in (omega (arith, o.0), o.1, o.2))
            (cases_eq v r);
      }
    where
      empty : waits r ≡ None
      empty = on (waits r) refl
        where
          on : (o : Option Distance) → waits r ≡ o → waits r ≡ None
          on None e = e
          on (Some d) e = absurd (omega (arith, (S.only r d e).0))

      mine : after r ≡ Some k
      mine = here ∙ ap (λ o. Some (lower by_number o k)) empty

pub seeded_none : (p : Model) (waits : ℕ → Option Distance) → ((q : ℕ) → waits q ≡ None) → Seeded p 0 waits
seeded_none p waits none = record { goals = λ v h t. absurd (omega arith); only = λ v d e. absurd (none_some (none v) e) }
