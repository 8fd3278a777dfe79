-- The tests for numbers that come twice, against lists with none twice.
use Rattle.std.proofs.Common.{◌≡◌, ℕ, false, eqb, List, [], ◌∷◌, ◌++◌, IfOk, Ok, refl, ◌∙◌, subst, append_assoc, append-nil}
use Rattle.std.specs.List.{AllByRecursion}
use Rattle.std.proofs.ByRecursion.{All-push}
use Rattle.std.proofs.lemmas.Bool.{eqb-false, ne_eqb, or_parts, or_from, cond-false}
use Rattle.sas.specs.Model.{Distinct}
use Rattle.cards.specs.Reading.{member, distinct_on}
use Rattle.cards.proofs.Chains.{made_unless}

pub distinct_push : (xs : List ℕ) (v : ℕ) → Distinct xs → member v xs ≡ false → Distinct (xs ++ v ∷ [])
distinct_push [] v d m = (tt, tt)
distinct_push (x ∷ xs) v d m =
    let p = or_parts (eqb x v) (member v xs) m in
    (All-push (λ y. x ≡ y → ⊥) xs v d.0 (eqb-false x v p.0), distinct_push xs v d.1 p.1)

pub distinct_on_lem : (l : ℕ) (seen vs : List ℕ) → Distinct seen → IfOk (distinct_on l seen vs) (λ _. Distinct (seen ++ vs))
distinct_on_lem l seen [] d = rw append-nil d
distinct_on_lem l seen (v ∷ vs) d =
    made_unless (λ _. Distinct (seen ++ v ∷ vs)) (member v seen) _ _
    (λ m. subst (λ xs. IfOk (distinct_on l (seen ++ v ∷ []) vs) (λ _. Distinct xs)) (append_assoc seen (v ∷ []) vs) (distinct_on_lem l (seen ++ v ∷ []) vs (distinct_push seen v d m)))

all_middle : {X : Type 0} (P : X → Type 0) (xs : List X) (y : X) (ys : List X) → AllByRecursion P (xs ++ y ∷ ys) → P y
all_middle P [] y ys h = h.0
all_middle P (x ∷ xs) y ys h = all_middle P xs y ys h.1

pub member_before : (xs : List ℕ) (v : ℕ) (ys : List ℕ) → Distinct (xs ++ v ∷ ys) → member v xs ≡ false
member_before [] v ys d = refl
member_before (x ∷ xs) v ys d = or_from (eqb x v) (member v xs) (ne_eqb x v (all_middle (λ y. x ≡ y → ⊥) xs v ys d.0)) (member_before xs v ys d.1)

pub distinct_passes : (l : ℕ) (seen vs : List ℕ) → Distinct (seen ++ vs) → distinct_on l seen vs ≡ Ok tt
distinct_passes l seen [] d = refl
distinct_passes l seen (v ∷ vs) d =
    cond-false (member v seen) _ _ (member_before seen v vs d)
    ∙ distinct_passes l (seen ++ v ∷ []) vs (rw (append_assoc seen (v ∷ []) vs) d)
