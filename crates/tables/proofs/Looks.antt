-- The steps that lead to t are looked at, operator by operator and choice by choice.
use Rattle.std.proofs.Common.{◌≡◌, ℕ, ◌+◌, ◌<◌, ◌≤◌, ◌⊎◌, List, length, Option, sym, refl, ap, ◌∙◌, subst, inl, inr, ⊎_elim, arith}
use native.Mathlib.Decide.{ℕ_discrete}
use Rattle.bestfirst.specs.Problem.{above, Problem}
use Rattle.bestfirst.specs.Search.{opened, offered, Invariant, Put, None, From}
use Rattle.bestfirst.proofs.Steps.{narrow}
use Rattle.bestfirst.proofs.Look.{look}
use Rattle.keys.specs.declared.Distance.{Distance}
use Rattle.projections.specs.Origins.{free, offset, ways, Origin}
use Rattle.projections.specs.Projection.{Edge}
use Rattle.projections.proofs.Edges.{edge_number}
use Rattle.sas.specs.Model.{Model}
use Rattle.tables.specs.Backwards.{back, progress, slot, entry_at, Offered, Left, Later, Sofar}

module _ (p : Model) (each : ℕ → ℕ) (entries : List ℕ) (m t g : ℕ) where
  pub left_start : (w : ℕ → Option Distance) → Invariant (back p each) (From (back p each) t) (g + 0) (progress entries m w) → Invariant (back p each) (Left t 0) (g + 0) (progress entries m w)
  left_start w I = narrow (back p each) (g + 0) (progress entries m w) I (λ u q y k h e b d a. inl (e, omega arith))

  pub left_end : (n : ℕ) (w : ℕ → Option Distance) → length p.operators ≤ n → Sofar p each entries m t g (Left t n) w → Invariant (back p each) (None (back p each)) (g + 0) (progress entries m w)
  left_end n w over S = narrow (back p each) (g + 0) (progress entries m w) S.inv (λ u q y k h e b d a. absurd (omega (arith, e.1, edge_number p q y u d)))

  -- an operator without a step to t
  pub left_skip : (o : ℕ) (w : ℕ → Option Distance) → ((y : ℕ) → Edge p o y t → ⊥) → Sofar p each entries m t g (Left t o) w → Sofar p each entries m t g (Left t (o + 1)) w
  left_skip o w none S =
      record {
        inv = narrow (back p each) (g + 0) (progress entries m w) S.inv (λ u q y k h e b d a. inl (e.0, on u q y e.0 e.1 d (ℕ_discrete q o)));
        here = S.here;
        unset = S.unset;
      }
    where
      on : (u q y : ℕ) → u ≡ t → o ≤ q → Edge p q y u → Dec (q ≡ o) → o + 1 ≤ q
      on u q y z l d (yes e) = absurd (none y (subst (λ k. Edge p k y t) e (subst (λ k. Edge p q y k) z d)))
      on u q y z l d (no e) = omega arith

  module _ (o b : ℕ) (from : Origin p o t b) where
    pub later_start : (w : ℕ → Option Distance) → Sofar p each entries m t g (Left t o) w → Sofar p each entries m t g (Later p t o b 0) w
    later_start w S =
        record {
          inv = narrow (back p each) (g + 0) (progress entries m w) S.inv (λ u q y k h e b d a. inl (e.0, on u q y e.0 e.1 d (ℕ_discrete q o)));
          here = S.here;
          unset = S.unset;
        }
      where
        on : (u q y : ℕ) → u ≡ t → o ≤ q → Edge p q y u → Dec (q ≡ o) → (o + 1 ≤ q) ⊎ ((q ≡ o) × ((k : ℕ) × (0 ≤ k) × (k < ways p.sizes (free p o)) × (y ≡ b + offset p.sizes (free p o) k)))
        on u q y z l d (yes e) =
            let f = from.all y (subst (λ k. Edge p k y t) e (subst (λ k. Edge p q y k) z d)) in
            inr (e, (f.0, omega arith, f.1, f.2))
        on u q y z l d (no e) = inl (omega arith)

    pub later_end : (n : ℕ) (w : ℕ → Option Distance) → ways p.sizes (free p o) ≤ n → Sofar p each entries m t g (Later p t o b n) w → Sofar p each entries m t g (Left t (o + 1)) w
    later_end n w over S =
        record {
          inv = narrow (back p each) (g + 0) (progress entries m w) S.inv (λ u q y k h e b d a. inl (e.0, ⊎_elim (λ l. l) (λ r. absurd (omega (arith, r.1.1, r.1.2))) e.1));
          here = S.here;
          unset = S.unset;
        }

    pub later_next : (n c s : ℕ) (w v : ℕ → Option Distance) → n < ways p.sizes (free p o) → s ≡ b + offset p.sizes (free p o) n → c ≡ g + each o → Offered entries m w s c v →
        Sofar p each entries m t g (Later p t o b n) w → Sofar p each entries m t g (Later p t o b (n + 1)) v
    later_next n c s w v within is cost O S =
        record {
          inv = look B (g + 0) (progress entries m w) (progress entries m v) t o s g 0 S.inv S.here refl (omega arith) edge one put;
          here = kept (ℕ_discrete t s);
          unset = O.unset;
        }
      where
        B : Problem
        B = back p each

        edge : Edge p o s t
        edge = subst (λ k. Edge p o k t) (sym is) (from.leads n within)

        put : Put B (progress entries m w) s (offered (above 0) (progress entries m w s) (g + each o)) (progress entries m v)
        put = record { here = O.here ∙ ap (offered (above 0) (progress entries m w s)) cost; there = λ x h. ap (λ k. slot k (entry_at entries m x)) (O.there x h) }

        one : (x q y : ℕ) → Later p t o b n x q y → Edge p q y x → Later p t o b (n + 1) x q y ⊎ ((x ≡ t) × (q ≡ o) × (y ≡ s))
        one x q y e d = ⊎_elim (λ l. inl (e.0, inl l)) (λ r. which r (ℕ_discrete r.1.0 n)) e.1
          where
            which : (r : (q ≡ o) × ((k : ℕ) × (n ≤ k) × (k < ways p.sizes (free p o)) × (y ≡ b + offset p.sizes (free p o) k))) → Dec (r.1.0 ≡ n) → Later p t o b (n + 1) x q y ⊎ ((x ≡ t) × (q ≡ o) × (y ≡ s))
            which r (yes z) = inr (e.0, r.0, r.1.3 ∙ ap (λ k. b + offset p.sizes (free p o) k) z ∙ sym is)
            which r (no z) = inl (e.0, inr (r.0, (r.1.0, omega (arith, r.1.1), r.1.2, r.1.3)))

        kept : Dec (t ≡ s) → progress entries m v t ≡ opened g
        kept (yes z) = ap (progress entries m v) z ∙ O.here ∙ ap (λ k. offered (above 0) k c) (ap (progress entries m w) (sym z) ∙ S.here)
        kept (no z) = put.there t z ∙ S.here
