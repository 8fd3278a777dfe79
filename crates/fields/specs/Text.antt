-- Bytes, the pieces between separators, names and numerals.
use Rattle.std.specs.Prelude.{ℕ, ◌+◌, ◌-◌, ◌*◌, Bool, cond, ◌&&◌, ◌||◌, List, [], ◌∷◌, length, Some, None, Option, ◌==◌, nat_le}
use Rattle.std.specs.List.{list_all}

-- b in front of the first piece
abbrev pub onto : ℕ → List (List ℕ) → List (List ℕ)
onto b [] = (b ∷ []) ∷ []
onto b (p ∷ ps) = (b ∷ p) ∷ ps

-- the pieces between the bytes s: one more than there are such bytes
abbrev pub pieces : ℕ → List ℕ → List (List ℕ)
pieces s [] = [] ∷ []
pieces s (b ∷ bs) = cond (b == s) ([] ∷ pieces s bs) (onto b (pieces s bs))

abbrev pub between : ℕ → ℕ → ℕ → Bool
between low high b = nat_le low b && nat_le b high

-- a tab, or a byte from 32 to 126
abbrev pub tidy_byte : ℕ → Bool
tidy_byte b = b == 9 || between 32 126 b

-- what every line keeps: at most 200 bytes, each of them tidy
abbrev pub tidy : List ℕ → Bool
tidy bs = nat_le (length bs) 200 && list_all tidy_byte bs

-- 1 to 16 bytes of 33 to 126
abbrev pub is_name : List ℕ → Bool
is_name bs = between 1 16 (length bs) && list_all (between 33 126) bs

-- the number that digits write, after the number n
abbrev pub digits_on : ℕ → List ℕ → Option ℕ
digits_on n [] = Some n
digits_on n (c ∷ cs) = cond (between 48 57 c) (digits_on (10 * n + (c - 48)) cs) None

-- a decimal numeral: some digits, with no 0 in front of another
abbrev pub numeral : List ℕ → Option ℕ
numeral [] = None
numeral (c ∷ []) = digits_on 0 (c ∷ [])
numeral (c ∷ d ∷ ds) = cond (c == 48) None (digits_on 0 (c ∷ d ∷ ds))
