-- Numerals: which texts are one, and the steps of a loop over the digits.
use Rattle.std.proofs.Common.{◌≡◌, ℕ, ◌+◌, ◌-◌, ◌*◌, ◌<◌, ◌≤◌, Bool, true, false, cond, ◌&&◌, List, [], ◌∷◌, length, get_or, drop, is_some, Some, None, Option, sym, refl, ap, ◌∙◌, ⊎_elim, arith}
use Rattle.std.proofs.lemmas.List.{at_drop_more, at_drop_all}
use Rattle.std.proofs.lemmas.Bool.{cond-true, cond-false, ne_eqb, lt-leb, cases_Bool, and_left}
use Rattle.std.specs.List.{list_all}
use Rattle.fields.specs.Text.{between, digits_on, numeral}
use Rattle.fields.specs.Within.{within}

-- what `digit` answers
abbrev pub digit_of : ℕ → Option ℕ
digit_of b = cond (between 48 57 b) (Some (b - 48)) None

some_digit : (t : Bool) (x y : ℕ) → Some y ≡ cond t (Some x) None → (t ≡ true) × (x ≡ y)
some_digit true x y e = (refl, grind arith)
some_digit false x y e = absurd (grind arith)

no_digit : (t : Bool) (x : ℕ) → None ≡ cond t (Some x) None → t ≡ false
no_digit true x e = absurd (grind arith)
no_digit false x e = refl

-- one more digit, or a byte that is none
pub digits_more : (n : ℕ) (xs : List ℕ) (i d : ℕ) → i < length xs → Some d ≡ digit_of (get_or xs i 0) → digits_on n (drop i xs) ≡ digits_on (10 * n + d) (drop (i + 1) xs)
digits_more n xs i d h e =
    let p = some_digit (between 48 57 (get_or xs i 0)) (get_or xs i 0 - 48) d e in
    at_drop_more (digits_on n) xs i 0 h ∙ cond-true _ _ _ p.0 ∙ ap (λ k. digits_on (10 * n + k) (drop (i + 1) xs)) p.1

pub digits_stop : (n : ℕ) (xs : List ℕ) (i : ℕ) → i < length xs → None ≡ digit_of (get_or xs i 0) → digits_on n (drop i xs) ≡ None
digits_stop n xs i h e =
    at_drop_more (digits_on n) xs i 0 h ∙ cond-false _ _ _ (no_digit (between 48 57 (get_or xs i 0)) (get_or xs i 0 - 48) e)

pub digits_none : (n : ℕ) (xs : List ℕ) (i : ℕ) → length xs ≤ i → digits_on n (drop i xs) ≡ Some n
digits_none n xs i h = at_drop_all (digits_on n) xs i h

-- digits only
all_digits : (n : ℕ) (cs : List ℕ) → is_some (digits_on n cs) ≡ list_all (between 48 57) cs
all_digits n [] = refl
all_digits n (c ∷ cs) =
    ⊎_elim
    (λ e. ap is_some (cond-true _ _ _ e) ∙ all_digits (10 * n + (c - 48)) cs ∙ sym (ap (λ t. t && list_all (between 48 57) cs) e))
    (λ e. ap is_some (cond-false _ _ _ e) ∙ sym (and_left _ _ e))
    (cases_Bool (between 48 57 c))

pub numeral_all : (xs : List ℕ) → 0 < length xs → (1 < length xs → get_or xs 0 0 ≡ 48 → ⊥) → is_some (numeral xs) ≡ list_all (between 48 57) xs
numeral_all [] h z = absurd (omega arith)
numeral_all (c ∷ []) h z = all_digits 0 (c ∷ [])
numeral_all (c ∷ d ∷ ds) h z = ap is_some (cond-false _ _ _ (ne_eqb c 48 (z (omega arith)))) ∙ all_digits 0 (c ∷ d ∷ ds)

-- past the limit no more digits help
pub too_large : (limit n : ℕ) (cs : List ℕ) → limit < n → within limit (digits_on n cs) ≡ None
too_large limit n [] h = cond-false _ _ _ (lt-leb n limit h)
too_large limit n (c ∷ cs) h =
    ⊎_elim
    (λ e. ap (within limit) (cond-true _ _ _ e) ∙ too_large limit (10 * n + (c - 48)) cs (omega arith))
    (λ e. ap (within limit) (cond-false _ _ _ e))
    (cases_Bool (between 48 57 c))

-- a numeral is written by its digits
numeral_some : (t : Bool) (o : Option ℕ) → true ≡ is_some (cond t None o) → cond t None o ≡ o
numeral_some true o e = absurd (grind arith)
numeral_some false o e = refl

pub numeral_digits : (xs : List ℕ) → true ≡ is_some (numeral xs) → numeral xs ≡ digits_on 0 xs
numeral_digits [] e = absurd (grind arith)
numeral_digits (c ∷ []) e = refl
numeral_digits (c ∷ d ∷ ds) e = numeral_some _ _ e
