-- A number is read back from its decimal numeral, whose bytes are digits; and no other text is read as it.
use Rattle.std.proofs.Common.{◌≡◌, ℕ, ◌+◌, ◌-◌, ◌*◌, ◌^◌, ◌<◌, ◌≤◌, Bool, true, false, cond, eqb, leb, List, [], ◌∷◌, length, get_or, Some, None, decimal, Option, sym, refl, ap, ◌∙◌, ⊎_elim, arith}
use Rattle.std.specs.List.{AllByRecursion}
use Rattle.std.proofs.lemmas.Fmt as decimals
use Rattle.std.proofs.lemmas.Fmt.{decimal_digit, decimal_nonempty, first_decimal, digits_value-decimal, decimal-digits_value}
use Rattle.std.proofs.lemmas.Str.Parse.{IsNumeralModel, numerals_by_fold}
use Rattle.std.proofs.lemmas.Bool.{and_parts, and_from, leb-true, le-leb, eqb-false, ne_eqb, cond-true, cond-false, cases_lt}
use Rattle.fields.specs.Text.{between, digits_on, numeral}

abbrev pub Between : ℕ → ℕ → ℕ → Type 0
Between low high b = (low ≤ b) × (b ≤ high)

pub between_true : (low high b : ℕ) → Between low high b → between low high b ≡ true
between_true low high b h = and_from (leb low b) (leb b high) (le-leb low b h.0) (le-leb b high h.1)

pub true_between : (low high b : ℕ) → between low high b ≡ true → Between low high b
true_between low high b e = let q = and_parts (leb low b) (leb b high) e in (leb-true low b q.0, leb-true b high q.1)

-- the number that digits write, after the number n
abbrev value_on : ℕ → List ℕ → ℕ
value_on n [] = n
value_on n (c ∷ cs) = value_on (10 * n + (c - 48)) cs

own : IsNumeralModel (AllByRecursion (Between 48 57)) (value_on 0)
own =
    numerals_by_fold (AllByRecursion (Between 48 57)) (record { empty = tt; parts = λ c cs h. h; more = λ c cs k h. (k, h) }) value_on
    (record { empty = λ n. refl; more = λ n c cs k. ap (λ m. value_on m cs) (omega arith) })

digits_on_lem : (n : ℕ) (ds : List ℕ) → AllByRecursion (Between 48 57) ds → digits_on n ds ≡ Some (value_on n ds)
digits_on_lem n [] h = refl
digits_on_lem n (c ∷ cs) h = cond-true _ _ _ (between_true 48 57 c h.0) ∙ digits_on_lem (10 * n + (c - 48)) cs h.1

pub digits_decimal : (n : ℕ) → n < 2 ^ 64 → AllByRecursion (Between 48 57) (decimal n)
digits_decimal n h = decimals.digits_decimal own n h

numeral_digits : (n : ℕ) (ds : List ℕ) → digits_on 0 ds ≡ Some n → 0 < length ds → (1 < length ds → get_or ds 0 0 ≡ 48 → ⊥) → numeral ds ≡ Some n
numeral_digits n [] e h f = absurd (omega arith)
numeral_digits n (c ∷ []) e h f = e
numeral_digits n (c ∷ d ∷ ds) e h f = cond-false _ _ _ (ne_eqb c 48 (f (omega arith))) ∙ e

pub numeral_decimal : (n : ℕ) → n < 2 ^ 64 → numeral (decimal n) ≡ Some n
numeral_decimal n h = numeral_digits n (decimal n) (digits_on_lem 0 (decimal n) (digits_decimal n h) ∙ ap Some (digits_value-decimal own n h)) (decimal_nonempty n h) (λ two e. ⊎_elim (zero two) (some e) (cases_lt n 1))
  where
    zero : 1 < length (decimal n) → n < 1 → ⊥
    zero two k = omega (arith, ap length (decimal_digit n (omega arith)))

    some : get_or (decimal n) 0 0 ≡ 48 → 1 ≤ n → ⊥
    some e k = omega (arith, first_decimal n (omega arith) h)

if_some : (b : Bool) (o : Option ℕ) (n : ℕ) → cond b o None ≡ Some n → (b ≡ true) × (o ≡ Some n)
if_some true o n e = (refl, e)
if_some false o n e = absurd (let z : ◌≡◌ {A = ℕ} 0 1 = cc in omega arith)

unless_some : (b : Bool) (o : Option ℕ) (n : ℕ) → cond b None o ≡ Some n → (b ≡ false) × (o ≡ Some n)
unless_some true o n e = absurd (let z : ◌≡◌ {A = ℕ} 0 1 = cc in omega arith)
unless_some false o n e = (refl, e)

digits_value : (m n : ℕ) (ds : List ℕ) → digits_on m ds ≡ Some n → AllByRecursion (Between 48 57) ds × (value_on m ds ≡ n)
digits_value m n [] e = (tt, cc)
digits_value m n (c ∷ cs) e =
    let p = if_some (between 48 57 c) (digits_on (10 * m + (c - 48)) cs) n e in
    let q = digits_value (10 * m + (c - 48)) n cs p.1 in
    ((true_between 48 57 c p.0, q.0), q.1)

decimal_digits : (n : ℕ) (ds : List ℕ) → digits_on 0 ds ≡ Some n → 0 < length ds → (get_or ds 0 0 ≡ 48 → length ds ≡ 1) → n < 2 ^ 64 → decimal n ≡ ds
decimal_digits n ds e some lead h =
    let p = digits_value 0 n ds e in
    ap decimal (sym p.1) ∙ decimal-digits_value own ds p.0 some lead (omega (arith, p.1))

pub decimal_numeral : (n : ℕ) (ds : List ℕ) → numeral ds ≡ Some n → n < 2 ^ 64 → decimal n ≡ ds
decimal_numeral n [] e h = absurd (let z : ◌≡◌ {A = ℕ} 0 1 = cc in omega arith)
decimal_numeral n (c ∷ []) e h = decimal_digits n (c ∷ []) e (omega arith) (λ _. refl) h
decimal_numeral n (c ∷ d ∷ ds) e h =
    let p = unless_some (eqb c 48) (digits_on 0 (c ∷ d ∷ ds)) n e in
    decimal_digits n (c ∷ d ∷ ds) p.1 (omega arith) (λ z. absurd (eqb-false c 48 p.0 z)) h
