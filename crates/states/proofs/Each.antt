-- What `all` answers decides whether each element has a fact, where the test of one element decides it.
use Rattle.std.proofs.Common.{◌≡◌, ℕ, zero, suc, ◌<◌, Bool, true, false, List, [], ◌∷◌, length, get_or, map, Option, Decides, MatchOption, refl, arith}
use Rattle.std.specs.Bool.{MatchBool}
use Rattle.std.specs.Fn.{Called}
use Rattle.std.specs.Iterator.{YieldsThen}
use Rattle.std.specs.List.{AllByRecursion, AllWithin, FoldsTo, HoldsAt, zip}
use Rattle.std.proofs.lemmas.Bool.{false≢true}
use Rattle.std.proofs.lemmas.Bool.Decides.{when_true}
use Rattle.std.proofs.lemmas.Iterator.{YieldsList, cases_from_all}
use Rattle.std.proofs.lemmas.Iterator.Search.{true_from_All}
use Rattle.std.proofs.lemmas.List.Elements.{All-from_recursion, recursion_from_All}
use denote.Param.Members.{Mut}

decides_each : {X : Type 0} (P : X → Type 0) (xs : List X) (r : Bool) → MatchBool r (AllWithin (λ x. Decides true (P x)) xs 0 (length xs)) ((k : ℕ) × (k < length xs) × HoldsAt (λ x. Decides false (P x)) xs k) → Decides r (AllByRecursion P xs)
decides_each P xs r answer = (
  λ e. recursion_from_All P xs (λ k d within. (when_true _ _ e answer k d (omega arith) within).0 refl),
  λ h. true_from_All (λ x. Decides true (P x)) (λ x. Decides false (P x)) r xs (λ x yes no. false≢true (no.1 (yes.0 refl))) answer (λ k d within. let here = All-from_recursion P xs h k d within in (λ _. here, λ _. refl)),
)

pub all_decides : {S A B F : Type 0} {steps : S → Option A → S → Type 0} {v : A → B} {g : Mut F (A × Unit {0}) Bool} {s : S} {xs : List B} (P : B → Type 0) (u : S) (f : F) (r : Bool) → (ys : List A) × (o : Option A) × (j : F) × YieldsThen steps s ys o u × FoldsTo (λ p x q. Called g p (x, tt) true q) f ys j × MatchOption o (r ≡ true) (λ x. (r ≡ false) × ((h : F) × Called g j (x, tt) false h)) → YieldsList steps v s xs → ((x : A) (b : Bool) (q : F) → Called g f (x, tt) b q → (q ≡ f) × Decides b (P (v x))) → Decides r (AllByRecursion P xs)
all_decides {xs = xs} P u f r ran yields calls = decides_each P xs r (cases_from_all u f r (λ x. Decides true (P x)) (λ x. Decides false (P x)) ran yields (λ x q k. calls x true q k) (λ x q k. (calls x false q k).1))

-- of each pair of two lists, and at each place
module _ {X Z : Type 0} (f : X → Z) (d : Z) (R : Z → Z → Type 0) where
  pub at_each_place : (xs ys : List X) → length xs ≡ length ys → AllByRecursion (λ p. R (f p.0) (f p.1)) (zip xs ys) → (k : ℕ) → k < length xs → R (get_or (map f xs) k d) (get_or (map f ys) k d)
  at_each_place [] ys even h k within = absurd (omega arith)
  at_each_place (x ∷ xs) [] even h k within = absurd (omega arith)
  at_each_place (x ∷ xs) (y ∷ ys) even h zero within = h.0
  at_each_place (x ∷ xs) (y ∷ ys) even h (suc k) within = at_each_place xs ys (omega arith) h.1 k (omega arith)

  pub from_each_place : (xs ys : List X) → ((k : ℕ) → k < length xs → R (get_or (map f xs) k d) (get_or (map f ys) k d)) → AllByRecursion (λ p. R (f p.0) (f p.1)) (zip xs ys)
  from_each_place [] ys h = tt
  from_each_place (x ∷ xs) [] h = tt
  from_each_place (x ∷ xs) (y ∷ ys) h = (h 0 (omega arith), from_each_place xs ys (λ k within. h (suc k) (omega arith)))
