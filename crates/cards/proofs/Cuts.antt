-- A line that is spelled by its letter and its fields is tidy, and is cut into them.
use Rattle.std.proofs.Common.{◌≡◌, ℕ, ◌+◌, ◌^◌, ◌<◌, ◌≤◌, Bool, true, eqb, leb, List, [], ◌∷◌, ◌++◌, length, decimal, refl, ap, ◌∙◌, arith}
use Rattle.std.specs.List.{AllByRecursion}
use Rattle.std.proofs.ByRecursion.{All-weaker}
use Rattle.std.proofs.lemmas.List.{length-append}
use Rattle.std.proofs.lemmas.Bool.{and_parts, and_from, or_right, leb-true, le-leb, ne_eqb, cond-true, cond-false, both_ways}
use Rattle.std.specs.List.{list_all}
use Rattle.fields.specs.Text.{between, tidy_byte, tidy, is_name}
use Rattle.fields.specs.Lines.{cut_line, by_letter, by_fields, skipped}
use Rattle.cards.specs.Spelling.{tabbed}
use Rattle.cards.proofs.Numerals.{Between, between_true, true_between, digits_decimal}
use Rattle.cards.proofs.Pieces.{Free, pieces_tabbed}

-- bytes of fields: neither blank nor control bytes
abbrev pub Inked : List ℕ → Type 0
Inked t = AllByRecursion (Between 33 126) t

bytes_between : (low high : ℕ) (t : List ℕ) → list_all (between low high) t ≡ true → AllByRecursion (Between low high) t
bytes_between low high [] e = tt
bytes_between low high (b ∷ bs) e =
    let p = and_parts (between low high b) (list_all (between low high) bs) e in
    (true_between low high b p.0, bytes_between low high bs p.1)

pub name_inked : (t : List ℕ) → is_name t ≡ true → Inked t
name_inked t e = bytes_between 33 126 t (and_parts (between 1 16 (length t)) (list_all (between 33 126) t) e).1

pub name_short : (t : List ℕ) → is_name t ≡ true → length t ≤ 16
name_short t e =
    let p = and_parts (between 1 16 (length t)) (list_all (between 33 126) t) e in
    leb-true (length t) 16 (and_parts (leb 1 (length t)) (leb (length t) 16) p.0).1

pub decimal_inked : (n : ℕ) → n < 2 ^ 64 → Inked (decimal n)
decimal_inked n h = All-weaker (Between 48 57) (Between 33 126) (λ b k. (omega arith, omega arith)) (decimal n) (digits_decimal n h)

-- a line's bytes
inked_free : (s : ℕ) (t : List ℕ) → s < 33 → Inked t → Free s t
inked_free s t l h = All-weaker (Between 33 126) (λ b. b ≡ s → ⊥) (λ b k e. omega arith) t h

inked_tidy : (t : List ℕ) → Inked t → list_all tidy_byte t ≡ true
inked_tidy [] h = refl
inked_tidy (b ∷ bs) h = and_from (tidy_byte b) (list_all tidy_byte bs) (or_right (eqb b 9) (between 32 126 b) (between_true 32 126 b (omega arith, omega arith))) (inked_tidy bs h.1)

bytes_append : (p : ℕ → Bool) (xs ys : List ℕ) → list_all p xs ≡ true → list_all p ys ≡ true → list_all p (xs ++ ys) ≡ true
bytes_append p [] ys h k = k
bytes_append p (x ∷ xs) ys h k =
    let q = and_parts (p x) (list_all p xs) h in
    and_from (p x) (list_all p (xs ++ ys)) q.0 (bytes_append p xs ys q.1 k)

bytes_tidy : (first : List ℕ) (rest : List (List ℕ)) → Inked first → AllByRecursion Inked rest → list_all tidy_byte (tabbed first rest) ≡ true
bytes_tidy first [] h k = inked_tidy first h
bytes_tidy first (next ∷ more) h k = bytes_append tidy_byte first (9 ∷ tabbed next more) (inked_tidy first h) (bytes_tidy next more k.0 k.1)

-- the room that fields take, each with its tab
abbrev pub room : List (List ℕ) → ℕ
room [] = 0
room (t ∷ ts) = length t + 1 + room ts

length_tabbed : (first : List ℕ) (rest : List (List ℕ)) → length (tabbed first rest) ≡ length first + room rest
length_tabbed first [] = omega arith
length_tabbed first (next ∷ more) = simp length-append (omega (arith, length_tabbed next more))

pub tabbed_tidy : (b : ℕ) (ts : List (List ℕ)) → Between 33 126 b → AllByRecursion Inked ts → room ts ≤ 199 → tidy (tabbed (b ∷ []) ts) ≡ true
tabbed_tidy b ts h k r =
    let line : List ℕ = tabbed (b ∷ []) ts in
    and_from (leb (length line) 200) (list_all tidy_byte line) (le-leb (length line) 200 (omega (arith, length_tabbed (b ∷ []) ts))) (bytes_tidy (b ∷ []) ts (h, tt) k)

-- byte 10 is not tidy
pub tidy_free : (t : List ℕ) → tidy t ≡ true → Free 10 t
tidy_free t e = none_ten t (and_parts (leb (length t) 200) (list_all tidy_byte t) e).1
  where
    none_ten : (bs : List ℕ) → list_all tidy_byte bs ≡ true → Free 10 bs
    none_ten [] h = tt
    none_ten (b ∷ bs) h = let p = and_parts (tidy_byte b) (list_all tidy_byte bs) h in ((λ q. both_ways (tidy_byte b) (ap tidy_byte q) p.0), none_ten bs p.1)

pub cut_tabbed : (l b : ℕ) (t : List ℕ) (ts : List (List ℕ)) → Between 33 126 b → (b ≡ 35 → ⊥) → AllByRecursion Inked (t ∷ ts) → tidy (tabbed (b ∷ []) (t ∷ ts)) ≡ true → cut_line l (tabbed (b ∷ []) (t ∷ ts)) ≡ by_letter l (b ∷ []) (t ∷ ts)
cut_tabbed l b t ts h n k e =
    let line : List ℕ = tabbed (b ∷ []) (t ∷ ts) in
    cond-true (tidy line) _ _ e
    ∙ cond-false (skipped line) _ _ (ne_eqb b 35 n)
    ∙ ap (by_fields l) (pieces_tabbed (b ∷ []) (t ∷ ts) (inked_free 9 (b ∷ []) (omega arith) (h, tt)) (All-weaker Inked (Free 9) (λ u m. inked_free 9 u (omega arith) m) (t ∷ ts) k))
