-- Lists with the same elements, by tests of equality that are exact.
use Rattle.std.proofs.Common.{◌≡◌, Bool, List, get_or, Decides, refl, sym, subst}
use Rattle.std.specs.List.{ContainsAt, list_all, list_any}
use Rattle.std.proofs.lemmas.Bool.Decides.{Decides-at, Decides-by_and, Decides-by_or}
use Rattle.std.proofs.lemmas.List.Elements.{All-contains, Contains-from_at}
use Rattle.std.proofs.ByRecursion.{has_get_or}
use Rattle.states.specs.Sets.{Exact}

-- a test that decides equality is exact
pub exact_from : {X : Type 0} (eq : X → X → Bool) → ((x y : X) → Decides (eq x y) (x ≡ y)) → Exact (λ x y r. r ≡ eq x y)
exact_from eq decides x y b is = subst (λ t. Decides t (x ≡ y)) (sym is) (decides x y)

-- tests of each element of the one against each of the other decide whether all are there
pub included_is : {X : Type 0} (eq : X → X → Bool) → Exact (λ x y r. r ≡ eq x y) → (xs ys : List X) (r : Bool) → r ≡ list_all (λ x. list_any (λ y. eq y x) ys) xs → Decides r ((x : X) → ContainsAt xs x → ContainsAt ys x)
included_is eq exact xs ys r is =
    let there = λ (x : _). Decides-by_or (λ y. eq y x) (λ y. y ≡ x) (list_any (λ y. eq y x)) (λ y. exact y x _ refl) refl (λ _ _. refl) ys in
    let d = Decides-at _ _ is (Decides-by_and _ (ContainsAt ys) (list_all (λ x. list_any (λ y. eq y x) ys)) there refl (λ _ _. refl) xs) in
    (λ e x has. All-contains (ContainsAt ys) xs x (d.0 e) (Contains-from_at xs x has), λ h. d.1 (λ k x within. h (get_or xs k x) (has_get_or xs k x within)))

-- the same test, of what is equal
pub decides_at : {X Y : Type 0} (R : X → Y → Type 0) (b : Bool) (x u : X) (y v : Y) → x ≡ u → y ≡ v → Decides b (R x y) → Decides b (R u v)
decides_at R b x u y v e f d = subst (λ z. Decides b (R u z)) f (subst (λ z. Decides b (R z y)) e d)
