-- A part more for the last operator, and a pattern more.
use Rattle.std.proofs.Common.{◌≡◌, ℕ, List, [], ◌∷◌, ◌++◌, map, length, Ok, Err, vec_items, Result, sym, refl, ap, ◌∙◌}
use Rattle.std.proofs.lemmas.List.{map_push}
use Rattle.fields.specs.declared.faults.LineFault.{LineFault}
use Rattle.fields.specs.declared.faults.LineFault.TheVariants.{Order}
use Rattle.cards.specs.Reading.{Placed, Reading, ◌>>=◌, on_last, part_place, add_part, with_opers, pattern_place, indices_on, distinct_on, with_pattern, add_pattern}
use Rattle.drafts.specs.View.{placed, said}
use Rattle.drafts.specs.declared.parts.DraftOperator.{DraftOperator}
use Rattle.drafts.specs.declared.parts.Draft.{Draft}

bind_twice : {X Y Z : Type 0} (r : Result X LineFault) (f : X → Y) (g : Y → Z) → (r >>= (λ x. Ok (f x)) >>= (λ y. Ok (g y))) ≡ (r >>= (λ x. Ok (g (f x))))
bind_twice (Ok x) f g = refl
bind_twice (Err e) f g = refl

-- f at the last of a list that is known to end
on_last_lem : {X : Type 0} (e : LineFault) (f : X → Result X LineFault) (xs : List X) (x : X) → on_last e f (xs ++ x ∷ []) ≡ (f x >>= (λ y. Ok (xs ++ y ∷ [])))
on_last_lem e f [] x = refl
on_last_lem e f (z ∷ []) x = bind_twice (f x) (λ y. y ∷ []) (λ ys. z ∷ ys)
on_last_lem e f (z ∷ w ∷ zs) x = ap (λ r. r >>= (λ ys. Ok (z ∷ ys))) (on_last_lem e f (w ∷ zs) x) ∙ bind_twice (f x) (λ y. (w ∷ zs) ++ y ∷ []) (λ ys. z ∷ ys)

-- the last operator o after f
pub part_on : (f : Placed → Result Placed LineFault) (l : ℕ) (d : Draft) (rest : List DraftOperator) (o : DraftOperator) (u : Unit {0}) (r : Result Placed LineFault) → vec_items d.operators ≡ rest ++ o ∷ [] → Ok u ≡ part_place l (said d) → f (placed o) ≡ r → add_part l (said d) f ≡ (r >>= (λ p. Ok (with_opers (said d) (map placed rest ++ p ∷ []))))
part_on f l d rest o u r e place q =
    ap (λ p. p >>= (λ _. on_last (Order l) f (said d).opers >>= (λ os. Ok (with_opers (said d) os)))) (sym place)
    ∙ ap (λ ws. on_last (Order l) f ws >>= (λ os. Ok (with_opers (said d) os))) (ap (map placed) e ∙ map_push placed rest o)
    ∙ ap (λ p. p >>= (λ os. Ok (with_opers (said d) os))) (on_last_lem (Order l) f (map placed rest) (placed o) ∙ ap (λ p. p >>= (λ y. Ok (map placed rest ++ y ∷ []))) q)
    ∙ bind_twice r (λ y. map placed rest ++ y ∷ []) (with_opers (said d))

pub pattern_on : (l : ℕ) (s : Reading) (ts : List (List ℕ)) (n : ℕ) (u : Unit {0}) (r : Result (List ℕ) LineFault) → n ≡ length s.vars → Ok u ≡ pattern_place l s → indices_on l n [] ts ≡ r → add_pattern l s ts ≡ (r >>= (λ vs. distinct_on l [] vs >>= (λ _. Ok (with_pattern s vs))))
pattern_on l s ts n u r m place f =
    ap (λ q. q >>= (λ _. indices_on l (length s.vars) [] ts >>= (λ vs. distinct_on l [] vs >>= (λ _. Ok (with_pattern s vs))))) (sym place)
    ∙ ap (λ q. q >>= (λ vs. distinct_on l [] vs >>= (λ _. Ok (with_pattern s vs)))) (ap (λ k. indices_on l k [] ts) (sym m) ∙ f)

pub pattern_distinct : (l : ℕ) (s : Reading) (vs zs : List ℕ) (q : Result (Unit {0}) LineFault) → zs ≡ vs → q ≡ distinct_on l [] zs → (distinct_on l [] vs >>= (λ _. Ok (with_pattern s vs))) ≡ (q >>= (λ _. Ok (with_pattern s vs)))
pattern_distinct l s vs zs q e f = ap (λ p. p >>= (λ _. Ok (with_pattern s vs))) (ap (distinct_on l []) (sym e) ∙ sym f)
