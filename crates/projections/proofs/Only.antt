-- The kept elements of a list, and the new numbers of the kept variables.
use Rattle.std.proofs.Common.{◌≡◌, ℕ, zero, suc, ◌+◌, ◌*◌, ◌<◌, ◌≤◌, Bool, true, false, cond, List, [], ◌∷◌, ◌++◌, filter, length, get_or, take, set, sym, refl, ap, ◌∙◌, subst, mul-le-mul_right, mul-le-mul_left, one-mul, add-zero, zero-add, add-one, arith}
use native.Mathlib.Decide.{ℕ_discrete}
use Rattle.std.specs.List.{AllByRecursion, range_with_len}
use Rattle.sas.specs.Model.{product}
use Rattle.sas.specs.States.{State}
use Rattle.projections.specs.Projection.{only, place}

-- the test of the variables behind the first
abbrev later : (ℕ → Bool) → ℕ → Bool
later keep v = keep (suc v)

place_later : (keep : ℕ → Bool) (v : ℕ) → place keep (suc v) ≡ cond (keep 0) (suc (place (later keep) v)) (place (later keep) v)
place_later keep zero = on (keep 0)
  where
    on : (b : Bool) → 0 + cond b 1 0 ≡ cond b 1 0
    on true = omega arith
    on false = omega arith
place_later keep (suc v) = on (keep 0) (place_later keep v)
  where
    p : ℕ
    p = place (later keep) v

    q : ℕ
    q = cond (keep (suc v)) 1 0

    on : (b : Bool) → place keep (suc v) ≡ cond b (suc p) p → place keep (suc v) + q ≡ cond b (suc (p + q)) (p + q)
    on true e = omega (arith, e)
    on false e = omega (arith, e)

pub length_only : {X : Type 0} (keep : ℕ → Bool) (s : List X) → length (only keep s) ≡ place keep (length s)
length_only keep [] = refl
length_only {X} keep (x ∷ s) = on (keep 0) (length_only (later keep) s) ∙ sym (place_later keep (length s))
  where
    r : List X
    r = only (later keep) s

    on : (b : Bool) → length r ≡ place (later keep) (length s) → length (cond b (x ∷ r) r) ≡ cond b (suc (place (later keep) (length s))) (place (later keep) (length s))
    on true e = ap suc e
    on false e = e

place_mono : (keep : ℕ → Bool) (v w : ℕ) → v ≤ w → place keep v ≤ place keep w
place_mono keep v zero l = let z : v ≡ 0 = omega arith in omega (arith, ap (place keep) z)
place_mono keep v (suc w) l = elim (ℕ_discrete v (suc w)) [
  | yes q ↦ omega (arith, ap (place keep) q)
  | no n ↦ omega (arith, place_mono keep v w (omega arith))
]

-- the kept variables keep their order
pub place_less : (keep : ℕ → Bool) (v w : ℕ) → keep v ≡ true → v < w → place keep v < place keep w
place_less keep v w k l =
    let next : place keep (suc v) ≡ place keep v + 1 = ap (λ b. place keep v + cond b 1 0) k in
    omega (arith, next, place_mono keep (suc v) w l)

-- and are told apart by their new numbers
pub place_apart : (keep : ℕ → Bool) (v w : ℕ) → keep v ≡ true → keep w ≡ true → place keep v ≡ place keep w → v ≡ w
place_apart keep v w kv kw e =
    let before : v < w → ⊥ = λ l. omega (arith, place_less keep v w kv l) in
    let behind : w < v → ⊥ = λ l. omega (arith, place_less keep w v kw l) in
    omega arith

pub place_low : (keep : ℕ → Bool) (v : ℕ) → place keep v ≤ v
place_low keep zero = omega arith
place_low keep (suc v) = on (keep v) (place_low keep v)
  where
    on : (b : Bool) → place keep v ≤ v → place keep v + cond b 1 0 ≤ suc v
    on true e = omega arith
    on false e = omega arith

pub place_below : {X : Type 0} (keep : ℕ → Bool) (s : List X) (v : ℕ) → keep v ≡ true → v < length s → place keep v < length (only keep s)
place_below keep s v k l = omega (arith, length_only keep s, place_less keep v (length s) k l)

pub get_or_only : {X : Type 0} (keep : ℕ → Bool) (s : List X) (v : ℕ) (d : X) → keep v ≡ true → get_or (only keep s) (place keep v) d ≡ get_or s v d
get_or_only keep [] v d k = refl
get_or_only {X} keep (x ∷ s) zero d k = ap (λ b. get_or (cond b (x ∷ only (later keep) s) (only (later keep) s)) 0 d) k
get_or_only {X} keep (x ∷ s) (suc v) d k = ap (λ n. get_or (only keep (x ∷ s)) n d) (place_later keep v) ∙ on (keep 0) (get_or_only (later keep) s v d k)
  where
    r : List X
    r = only (later keep) s

    p : ℕ
    p = place (later keep) v

    on : (b : Bool) → get_or r p d ≡ get_or s v d → get_or (cond b (x ∷ r) r) (cond b (suc p) p) d ≡ get_or s v d
    on true e = e
    on false e = e

pub set_only : {X : Type 0} (keep : ℕ → Bool) (s : List X) (v : ℕ) (x : X) → keep v ≡ true → only keep (set s v x) ≡ set (only keep s) (place keep v) x
set_only keep [] v x k = refl
set_only {X} keep (y ∷ s) zero x k = on (keep 0) k
  where
    r : List X
    r = only (later keep) s

    on : (b : Bool) → b ≡ true → cond b (x ∷ r) r ≡ set (cond b (y ∷ r) r) 0 x
    on true e = refl
    on false e = let z : ◌≡◌ {A = ℕ} 0 1 = cc in absurd (omega arith)
set_only {X} keep (y ∷ s) (suc v) x k = on (keep 0) (set_only (later keep) s v x k) ∙ ap (λ n. set (only keep (y ∷ s)) n x) (sym (place_later keep v))
  where
    r : List X
    r = only (later keep) s

    t : List X
    t = only (later keep) (set s v x)

    p : ℕ
    p = place (later keep) v

    on : (b : Bool) → t ≡ set r p x → cond b (y ∷ t) t ≡ set (cond b (y ∷ r) r) (cond b (suc p) p) x
    on true e = ap (λ l. y ∷ l) e
    on false e = e

pub set_other : {X : Type 0} (keep : ℕ → Bool) (s : List X) (v : ℕ) (x : X) → keep v ≡ false → only keep (set s v x) ≡ only keep s
set_other keep [] v x k = refl
set_other {X} keep (y ∷ s) zero x k = ap (λ b. cond b (x ∷ only (later keep) s) (only (later keep) s)) k ∙ sym (ap (λ b. cond b (y ∷ only (later keep) s) (only (later keep) s)) k)
set_other {X} keep (y ∷ s) (suc v) x k = ap (λ l. cond (keep 0) (y ∷ l) l) (set_other (later keep) s v x k)

-- every new number is one of a kept variable
pub place_from : (keep : ℕ → Bool) (n i : ℕ) → i < place keep n → (v : ℕ) × (v < n) × (keep v ≡ true) × (place keep v ≡ i)
place_from keep zero i l = absurd (omega arith)
place_from keep (suc n) i l = on (keep n) refl l (λ h. let f = place_from keep n i h in (f.0, omega (arith, f.1), f.2, f.3))
  where
    From : Type 0
    From = (v : ℕ) × (v < suc n) × (keep v ≡ true) × (place keep v ≡ i)

    on : (b : Bool) → keep n ≡ b → i < place keep n + cond b 1 0 → (i < place keep n → From) → From
    on true e h below = elim (ℕ_discrete i (place keep n)) [
      | yes q ↦ (n, omega arith, e, sym q)
      | no q ↦ below (omega arith)
    ]
    on false e h below = below (omega arith)

pub only_from : {X : Type 0} (keep : ℕ → Bool) (s : List X) (i : ℕ) → i < length (only keep s) → (v : ℕ) × (v < length s) × (keep v ≡ true) × (place keep v ≡ i)
only_from keep s i l = place_from keep (length s) i (omega (arith, length_only keep s))

pub all_only : {X : Type 0} (P : X → Type 0) (keep : ℕ → Bool) (s : List X) → AllByRecursion P s → AllByRecursion P (only keep s)
all_only P keep [] h = tt
all_only {X} P keep (x ∷ s) h = on (keep 0) (all_only P (later keep) s h.1)
  where
    r : List X
    r = only (later keep) s

    on : (b : Bool) → AllByRecursion P r → AllByRecursion P (cond b (x ∷ r) r)
    on true a = (h.0, a)
    on false a = a

pub state_only : (keep : ℕ → Bool) (sizes s : List ℕ) → State sizes s → State (only keep sizes) (only keep s)
state_only keep sizes s h = (
  length_only keep s ∙ ap (place keep) h.0 ∙ sym (length_only keep sizes),
  λ i l.
      let f = only_from keep sizes i l in
      let low : get_or s f.0 0 < get_or sizes f.0 0 = h.1 f.0 f.1 in
      subst (λ n. get_or (only keep s) n 0 < get_or (only keep sizes) n 0) f.3 (omega (arith, get_or_only keep s f.0 0 f.2, get_or_only keep sizes f.0 0 f.2, low)),
)

pub product_only : (keep : ℕ → Bool) (sizes : List ℕ) → AllByRecursion (λ z. 0 < z) sizes → product (only keep sizes) ≤ product sizes
product_only keep [] h = omega arith
product_only keep (z ∷ zs) h = on (keep 0) (product_only (later keep) zs h.1)
  where
    r : List ℕ
    r = only (later keep) zs

    on : (b : Bool) → product r ≤ product zs → product (cond b (z ∷ r) r) ≤ z * product zs
    on true e = mul-le-mul_left z e
    on false e = let one : 1 ≤ z = h.0 in omega (arith, e, mul-le-mul_right (product zs) one, one-mul (product zs))

only_next : {X : Type 0} (keep : ℕ → Bool) (s : List X) (i : ℕ) (d : X) → i < length s → only keep (take (suc i) s) ≡ only keep (take i s) ++ cond (keep i) (get_or s i d ∷ []) []
only_next keep [] i d l = absurd (omega arith)
only_next keep (x ∷ s) zero d l = refl
only_next {X} keep (x ∷ s) (suc i) d l = on (keep 0) (only_next (λ v. keep (suc v)) s i d (omega arith))
  where
    q : List X
    q = cond (keep (suc i)) (get_or s i d ∷ []) []

    r : List X
    r = only (λ v. keep (suc v)) (take i s)

    t : List X
    t = only (λ v. keep (suc v)) (take (suc i) s)

    on : (b : Bool) → t ≡ r ++ q → cond b (x ∷ t) t ≡ cond b (x ∷ r) r ++ q
    on true e = ap (λ l. x ∷ l) e
    on false e = e

-- the kept elements, one more variable read
pub only_more : {X : Type 0} (keep : ℕ → Bool) (s : List X) (i : ℕ) (d : X) (b : Bool) → keep i ≡ b → i < length s → only keep (take (i + 1) s) ≡ only keep (take i s) ++ cond b (get_or s i d ∷ []) []
only_more keep s i d b e l = ap (λ n. only keep (take n s)) (add-one i) ∙ only_next keep s i d l ∙ ap (λ c. only keep (take i s) ++ cond c (get_or s i d ∷ []) []) e

place_counted : (keep : ℕ → Bool) (a n : ℕ) → place keep a + length (filter keep (range_with_len a n)) ≡ place keep (a + n)
place_counted keep a zero = omega (arith, ap (place keep) (add-zero a))
place_counted keep a (suc n) = on (keep a) refl (place_counted keep (a + 1) n ∙ ap (place keep) (omega arith))
  where
    r : List ℕ
    r = filter keep (range_with_len (a + 1) n)

    on : (b : Bool) → keep a ≡ b → place keep (a + 1) + length r ≡ place keep (a + suc n) → place keep a + length (cond b (a ∷ r) r) ≡ place keep (a + suc n)
    on true e rest = omega (arith, rest, ap (place keep) (add-one a) ∙ ap (λ c. place keep a + cond c 1 0) e)
    on false e rest = omega (arith, rest, ap (place keep) (add-one a) ∙ ap (λ c. place keep a + cond c 1 0) e)

-- the new number of a variable counts the kept ones before it
pub place_is : (keep : ℕ → Bool) (v : ℕ) → length (filter keep (range_with_len 0 v)) ≡ place keep v
place_is keep v = omega (arith, place_counted keep 0 v, ap (place keep) (zero-add v))
