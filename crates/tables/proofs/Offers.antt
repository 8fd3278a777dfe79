-- What an offer does to the progress of the search.
use Rattle.std.proofs.Common.{◌≡◌, ℕ, ◌<◌, min, Bool, true, false, cond, eqb, ltb, ◌⊎◌, List, Some, None, Ok, Err, Option, Result, sym, refl, ap, ◌∙◌, inl, inr, ⊎_elim, arith}
use native.Mathlib.Decide.{ℕ_discrete}
use Rattle.std.proofs.lemmas.Bool.{cond-true, cond-false, lt-ltb, eq-eqb, ne_eqb, leb-true, leb-false, cases_Bool}
use Rattle.bestfirst.specs.Problem.{above}
use Rattle.bestfirst.specs.Search.{blank, waiting, opened, offered}
use Rattle.keys.specs.Orders.{by_number}
use Rattle.keys.specs.declared.Distance.{Distance}
use Rattle.lists.specs.Waits.{lower, Added, Put}
use Rattle.lists.specs.declared.PutRefusal.{PutRefusal}
use Rattle.tables.specs.Backwards.{slot, entry_at, Unset, Offered}
use Rattle.tables.specs.Costs.{mark}
use Rattle.tables.specs.Entries.{entry}

module _ (entries : List ℕ) (m : ℕ) (waits : ℕ → Option Distance) (k : ℕ) (below : k < m) (unset : Unset entries m waits) where
  is_entry : entry_at entries m k ≡ entry entries k
  is_entry = cond-true (ltb k m) (entry entries k) mark (lt-ltb k m below)

  -- a rank with an entry is left alone
  pub offered_not : (c : ℕ) → ¬ (entry entries k ≡ mark) → Offered entries m waits k c waits
  offered_not c no-mark = record { here = on (waits k) refl; there = λ q n. refl; unset = unset; keys = λ q d e. inl e }
    where
      set : slot None (entry_at entries m k) ≡ opened (entry_at entries m k)
      set = cond-false (eqb (entry_at entries m k) mark) blank (opened (entry_at entries m k)) (ne_eqb (entry_at entries m k) mark (λ e. no-mark (sym is_entry ∙ e)))

      on : (o : Option Distance) → waits k ≡ o → slot o (entry_at entries m k) ≡ offered (above 0) (slot o (entry_at entries m k)) c
      on (Some d) e = absurd (no-mark (unset k d e).1)
      on None e = set ∙ ap (λ x. offered (above 0) x c) (sym set)

  -- any other takes the lower of what it had and this
  pub offered_put : (after : ℕ → Option Distance) (d : Distance) → entry entries k ≡ mark → after k ≡ Some (lower by_number (waits k) d) →
      ((q : ℕ) → (q ≡ k → ⊥) → after q ≡ waits q) → Offered entries m waits k d.0 after
  offered_put after d is here there =
      record { here = ap (λ o. slot o e) here ∙ on (waits k); there = there; unset = λ q j h. which q j h (ℕ_discrete q k); keys = λ q j h. either q j h (ℕ_discrete q k) }
    where
      e : ℕ
      e = entry_at entries m k

      unmarked : slot None e ≡ blank
      unmarked = cond-true (eqb e mark) blank (opened e) (eq-eqb e mark (is_entry ∙ is))

      least : (j : Distance) → (cond (by_number j d) j d).0 ≡ min j.0 d.0
      least j = ⊎_elim
          (λ t. ap (λ b. (cond b j d).0) t ∙ (let h = leb-true j.0 d.0 t in omega arith))
          (λ t. ap (λ b. (cond b j d).0) t ∙ (let h = leb-false j.0 d.0 t in omega arith))
          (cases_Bool (by_number j d))

      on : (o : Option Distance) → slot (Some (lower by_number o d)) e ≡ offered (above 0) (slot o e) d.0
      on (Some j) = ap waiting (least j)
      on None = ap (λ x. offered (above 0) x d.0) (sym unmarked)

      which : (q : ℕ) (j : Distance) → after q ≡ Some j → Dec (q ≡ k) → (q < m) × (entry entries q ≡ mark)
      which q j h (yes z) = (omega (arith, z, below), ap (entry entries) z ∙ is)
      which q j h (no z) = unset q j (sym (there q z) ∙ h)

      low : (o : Option Distance) (j : Distance) → Some (lower by_number o d) ≡ Some j → (o ≡ Some j) ⊎ (j.0 ≡ d.0)
      low None j h = inr (let z : d ≡ j = cc in ap (λ x. x.0) (sym z))
      low (Some i) j h = pick (by_number i d) (let z : cond (by_number i d) i d ≡ j = cc in z)
        where
          pick : (b : Bool) → cond b i d ≡ j → (Some i ≡ Some j) ⊎ (j.0 ≡ d.0)
          pick true z = inl (ap Some z)
          pick false z = inr (ap (λ x. x.0) (sym z))

      either : (q : ℕ) (j : Distance) → after q ≡ Some j → Dec (q ≡ k) → (waits q ≡ Some j) ⊎ (j.0 ≡ d.0)
      either q j h (yes z) = ⊎_elim (λ r. inl (ap waits z ∙ r)) inr (low (waits k) j (sym here ∙ (ap after (sym z) ∙ h)))
      either q j h (no z) = inl (sym (there q z) ∙ h)

-- a put at a rank that has its place is accepted
pub put_accepted : {W : Type 0} (places : W → ℕ) (waiting_of : W → ℕ → Option Distance) (ordered : W → Type 0) (s t : W) (rank : ℕ) (d : Distance) (r : Result (Unit {0}) PutRefusal) →
    rank < places s → Put places waiting_of ordered by_number s rank d r t → Added places waiting_of ordered by_number s rank d t
put_accepted places waiting_of ordered s t rank d (Ok x) l a = a
put_accepted places waiting_of ordered s t rank d (Err x) l a = absurd (a.denied l)
