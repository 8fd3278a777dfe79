-- What a drain has given after some turns, what one more take adds, and what is given in the end.
use Rattle.std.proofs.Common.{subst, ◌≢◌, ◌≡◌, ℕ, ◌<◌, ◌≤◌, Bool, true, ◌⊎◌, List, [], ◌∷◌, ◌++◌, length, Some, None, Option, sym, refl, ap, ◌∙◌, inl, inr, arith}
use native.Mathlib.Decide.{dec_lt}
use Rattle.std.specs.List.{All, Contains}
use Rattle.std.proofs.lemmas.List.Elements.{All-push, Contains-push, Contains-append_left}
use Rattle.std.proofs.lemmas.List.Quantifiers.{all_pairs_push}
use Rattle.std.proofs.lemmas.Bool.{cases_eq}
use Rattle.lists.specs.Waits.{Empty, Taken}
use Rattle.drains.specs.Drained.{Ascends, Once, Waited, Drained}
use Rattle.drains.proofs.Ranks.{room}

clash : {K : Type 0} (o : Option K) (k : K) → o ≡ Some k → o ≡ None → ⊥
clash o k p q = let z : ◌≡◌ {A = ℕ} 0 1 = cc in omega arith

none_unless : {K : Type 0} (o : Option K) → ((k : K) → o ≡ Some k → ⊥) → o ≡ None
none_unless None h = refl
none_unless (Some k) h = absurd (h k refl)

-- a rank that waits is one of the places
within_places : {K : Type 0} {O : Type 0} {f : ℕ → Option K} {n : ℕ} → ((q : ℕ) → O → n ≤ q → f q ≡ None) → O → (q : ℕ) (k : K) → f q ≡ Some k → q < n
within_places within o q k h = elim (dec_lt q _) [ yes l ↦ l | no past ↦ absurd (clash _ k h (within q o (omega arith))) ]

module _ {K W : Type 0} (places : W → ℕ) (waiting : W → ℕ → Option K) (ordered : W → Type 0) (leq : K → K → Bool) (s : W) where
  -- of the list s, out is given and w is left
  pub record Part (out : List (ℕ × K)) (w : W) : Type 0 where
    pub ascends : Ascends leq out
    pub once : Once out
    pub waited : Waited (waiting s) out
    pub waits : (q : ℕ) (k : K) → waiting w q ≡ Some k → waiting s q ≡ Some k
    pub below : (q : ℕ) (k : K) → waiting w q ≡ Some k → All (λ p. leq p.1 k ≡ true) out
    pub gone : All (λ p. waiting w p.0 ≡ None) out
    pub rest : (q : ℕ) (k : K) → waiting s q ≡ Some k → (waiting w q ≡ Some k) ⊎ Contains out (q, k)
    pub kept : places w ≡ places s
    pub still : ordered w

  module _ (out : List (ℕ × K)) (w t : W) (rank : ℕ) (key : K) (part : Part out w) (taken : Taken places waiting ordered leq w rank key t) where
    abbrev more : List (ℕ × K)
    more = out ++ (rank, key) ∷ []

    waited_before : (q : ℕ) (k : K) → waiting t q ≡ Some k → waiting w q ≡ Some k
    waited_before q k e = elim (cases_eq q rank) [
      | inl at ↦ absurd (clash (waiting t q) k e (ap (waiting t) at ∙ taken.gone))
      | inr ne ↦ sym (taken.only.same q ne) ∙ e
    ]

    gone_more : All (λ p. waiting t p.0 ≡ None) more
    gone_more = All-push (λ p. waiting t p.0 ≡ None) out (rank, key) (λ i d l.
        let was = part.gone i d l in
        taken.only.same _ (λ e. clash (waiting w rank) key taken.here (ap (waiting w) (sym e) ∙ was)) ∙ was) taken.gone

    rest_more : (q : ℕ) (k : K) → waiting s q ≡ Some k → (waiting t q ≡ Some k) ⊎ Contains more (q, k)
    rest_more q k e = elim (part.rest q k e) [
      | inl h ↦ elim (cases_eq q rank) [
        | inl at ↦
            let same : (rank, key) ≡ (q, k) = let a : waiting w q ≡ Some key = ap (waiting w) at ∙ taken.here in cc in
            inr (subst (Contains more) same (Contains-push out (rank, key)))
        | inr ne ↦ inl (taken.only.same q ne ∙ h)
      ]
      | inr has ↦ inr (Contains-append_left out ((rank, key) ∷ []) (q, k) has)
    ]

    pub part_more : Part more t
    part_more = record {
      ascends = all_pairs_push (λ p q. leq p.1 q.1 ≡ true) out (rank, key) part.ascends (part.below rank key taken.here);
      once = all_pairs_push (λ p q. p.0 ≢ q.0) out (rank, key) part.once (λ i d l e. clash (waiting w rank) key taken.here (ap (waiting w) (sym e) ∙ part.gone i d l));
      waited = All-push (λ p. waiting s p.0 ≡ Some p.1) out (rank, key) part.waited (part.waits rank key taken.here);
      waits = λ q k e. part.waits q k (waited_before q k e);
      below = λ q k e. All-push (λ p. leq p.1 k ≡ true) out (rank, key) (part.below q k (waited_before q k e)) (taken.least q k (waited_before q k e));
      gone = gone_more;
      rest = rest_more;
      kept = taken.only.kept ∙ part.kept;
      still = taken.only.still;
    }

  module _ (out : List (ℕ × K)) (w : W) (part : Part out w) where
    -- nothing is left
    pub part_end : (t : W) → Empty places waiting ordered w t → Drained places waiting ordered leq s out t
    part_end t e = record {
      ascends = part.ascends;
      once = part.once;
      waited = part.waited;
      all = λ q k h. elim (part.rest q k h) [
        | inl still ↦ absurd (clash (waiting w q) k still (e.before q))
        | inr has ↦ has
      ];
      left = record { sized = e.after.sized ∙ part.kept; none = e.after.none; still = e.after.still };
    }

    -- as many are given as there are places
    pub part_full : ((u : W) (q : ℕ) → ordered u → places u ≤ q → waiting u q ≡ None) → ordered s → places s ≤ length out → Drained places waiting ordered leq s out w
    part_full within o full =
        let low : All (λ p. p.0 < places s) out = (λ i d l. within_places (within s) o _ _ (part.waited i d l)) in
        let none : (q : ℕ) → waiting w q ≡ None = (λ q. none_unless (waiting w q) (λ k h.
        let here : q < places s = omega (arith, within_places (within w) part.still q k h, part.kept) in
        let more = room out (places s) q k part.once low here (λ i d l e. clash (waiting w q) k h (ap (waiting w) e ∙ part.gone i d l)) in
        omega (arith, more, full))) in
        part_end w (record { before = none; after = record { sized = refl; none = none; still = part.still } })
