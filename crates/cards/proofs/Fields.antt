-- Names, numbers, goal values and facts are read back from the texts that spell them.
use Rattle.std.proofs.Common.{◌≡◌, ℕ, ◌^◌, ◌<◌, ◌≤◌, true, false, cond, ◌&&◌, eqb, ltb, leb, List, [], ◌∷◌, ◌++◌, map, length, get_or, is_some, Some, None, Ok, Err, decimal, Option, Result, refl, ap, ◌∙◌, arith}
use Rattle.std.specs.List.{AllByRecursion}
use Rattle.std.proofs.lemmas.Bool.{and_from, le-leb, lt-ltb, ne_eqb, cond-true, cond-false}
use Rattle.fields.specs.declared.place.Place.{Place}
use Rattle.fields.specs.declared.faults.FieldFault.TheVariants.{NoName, NoNumber}
use Rattle.fields.specs.Text.{is_name}
use Rattle.fields.specs.Fields.{at, name, number, text_of, number_field, number_or_dash, from, value_in}
use Rattle.fields.specs.Lines.{map_ok}
use Rattle.cards.specs.Content.{Var, Aimed, VarRules, sizes}
use Rattle.cards.specs.Reading.{◌>>=◌, in_field, name_at, number_at, goal_in, goal_at, variable_of, valued_of, add_valued, member}
use Rattle.cards.specs.Spelling.{goal_text}
use Rattle.cards.proofs.Numerals.{Between, digits_decimal, numeral_decimal}

pub bind_ok : {X Y E : Type 0} (r : Result X E) (x : X) (f : X → Result Y E) → r ≡ Ok x → (r >>= f) ≡ f x
bind_ok r x f e = ap (λ q. q >>= f) e

pub name_at_lem : (q : Place) (t : List ℕ) → is_name t ≡ true → name_at q t ≡ Ok t
name_at_lem q t e = ap (λ b. in_field (map_ok text_of (cond b (Ok (name t q)) (Err (NoName q))))) e

number_field_lem : (q : Place) (n : ℕ) → n < 2 ^ 64 → number_field q (decimal n) ≡ Ok (number (decimal n) q)
number_field_lem q n h = ap (λ o. cond (is_some o) (Ok (number (decimal n) q)) (Err (NoNumber q))) (numeral_decimal n h)

value_in_lem : (q : Place) (low end n : ℕ) → low ≤ n → n < end → n < 2 ^ 64 → value_in low end (number (decimal n) q) ≡ Ok n
value_in_lem q low end n a b h =
    ap (from low end (NoNumber q)) (numeral_decimal n h)
    ∙ cond-true (leb low n && ltb n end) (Ok n) (Err (NoNumber q)) (and_from (leb low n) (ltb n end) (le-leb low n a) (lt-ltb n end b))

pub number_at_lem : (q : Place) (low end n : ℕ) → low ≤ n → n < end → n < 2 ^ 64 → number_at q low end (decimal n) ≡ Ok n
number_at_lem q low end n a b h = ap in_field (bind_ok (number_field q (decimal n)) (number (decimal n) q) (value_in low end) (number_field_lem q n h) ∙ value_in_lem q low end n a b h)

no_dash : (q : Place) (ds : List ℕ) → AllByRecursion (Between 48 57) ds → number_or_dash q ds ≡ number_field q ds
no_dash q [] h = refl
no_dash q (b ∷ []) h = cond-false (eqb b 45) _ _ (ne_eqb b 45 (λ e. omega arith))
no_dash q (b ∷ c ∷ cs) h = refl

pub goal_at_lem : (q : Place) (size : ℕ) (g : Option ℕ) → size < 2 ^ 64 → Aimed size g → goal_at q size (goal_text g) ≡ Ok g
goal_at_lem q size None h a = refl
goal_at_lem q size (Some w) h a =
    ap in_field
    (bind_ok (number_or_dash q (decimal w)) (number (decimal w) q) (goal_in size) (no_dash q (decimal w) (digits_decimal w (omega arith)) ∙ number_field_lem q w (omega arith))
    ∙ ap (map_ok Some) (value_in_lem q 0 size w (omega arith) a (omega arith)))

pub variable_of_lem : (l : ℕ) (v : Var) → VarRules v → 2 ≤ v.size → v.size ≤ 16 → variable_of l v.name (decimal v.size) (decimal v.start) (goal_text v.goal) ≡ Ok v
variable_of_lem l v r a b =
    bind_ok (name_at (at l 2) v.name) v.name _ (name_at_lem (at l 2) v.name r.named)
    ∙ bind_ok (number_at (at l 3) 2 17 (decimal v.size)) v.size _ (number_at_lem (at l 3) 2 17 v.size a (omega arith) (omega arith))
    ∙ bind_ok (number_at (at l 4) 0 v.size (decimal v.start)) v.start _ (number_at_lem (at l 4) 0 v.size v.start (omega arith) r.started (omega (arith, r.started)))
    ∙ bind_ok (goal_at (at l 5) v.size (goal_text v.goal)) v.goal _ (goal_at_lem (at l 5) v.size v.goal (omega arith) r.aimed)

-- a variable and its value, among few variables of few values
pub valued_of_lem : (l : ℕ) (vs : List Var) (v x : ℕ) → length vs ≤ 16 → get_or (sizes vs) v 0 ≤ 16 → v < length vs → x < get_or (sizes vs) v 0 → valued_of l vs (decimal v) (decimal x) ≡ Ok (v, x)
valued_of_lem l vs v x a b h k =
    bind_ok (number_at (at l 2) 0 (length vs) (decimal v)) v _ (number_at_lem (at l 2) 0 (length vs) v (omega arith) h (omega arith))
    ∙ bind_ok (number_at (at l 3) 0 (get_or (sizes vs) v 0) (decimal x)) x _ (number_at_lem (at l 3) 0 (get_or (sizes vs) v 0) x (omega arith) k (omega arith))

pub add_valued_lem : {X : Type 0} (of val : X → ℕ) (make : ℕ × ℕ → X) → (l : ℕ) (vs : List Var) (xs : List X) (x : X) → make (of x, val x) ≡ x → length vs ≤ 16 → get_or (sizes vs) (of x) 0 ≤ 16 → of x < length vs → val x < get_or (sizes vs) (of x) 0 → length xs < 8 → member (of x) (map of xs) ≡ false → add_valued of make l vs (decimal (of x)) (decimal (val x)) xs ≡ Ok (xs ++ x ∷ [])
add_valued_lem of val make l vs xs x e a b h k few m =
    cond-true (ltb (length xs) 8) _ _ (lt-ltb (length xs) 8 few)
    ∙ bind_ok (valued_of l vs (decimal (of x)) (decimal (val x))) (of x, val x) _ (valued_of_lem l vs (of x) (val x) a b h k)
    ∙ cond-false (member (of x) (map of xs)) _ _ m
    ∙ ap (λ y. Ok (xs ++ y ∷ [])) e
