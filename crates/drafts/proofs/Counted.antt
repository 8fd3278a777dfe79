-- What is tested of a whole card: effects one operator after another, and the number of states up to the limit.
use Rattle.std.proofs.Common.{◌≡◌, ℕ, zero, suc, ◌*◌, ◌<◌, ◌≤◌, min, Bool, true, false, cond, eqb, leb, List, [], ◌∷◌, map, Some, None, Ok, Err, vec_len, Option, Result, refl, sym, ap, ◌∙◌, ⊎_elim, mul_assoc, mul-zero, mul-one, le-mul_of_pos_right, arith}
use Rattle.std.specs.List.{find, fold}
use native.Mathlib.Nat.{min-eq_left, min-eq_right}
use Rattle.std.proofs.lemmas.Bool.{cases_lt, lt-leb}
use Rattle.fields.specs.Fields.{plain, line_of}
use Rattle.sas.specs.Model.{product}
use Rattle.cards.specs.declared.CardFault.{CardFault}
use Rattle.cards.specs.declared.CardFault.TheVariants.{NoEffect}
use Rattle.cards.specs.Content.{sizes}
use Rattle.cards.specs.Reading.{effective}
use Rattle.drafts.specs.View.{plain_var, placed}
use Rattle.drafts.specs.declared.parts.Variable.{Variable}
use Rattle.drafts.specs.declared.parts.DraftOperator.{DraftOperator}

-- whether an operator has no effect
abbrev pub bare : DraftOperator → Bool
bare o = eqb (vec_len o.effects) 0

-- what the first operator without an effect makes of the card
abbrev pub fault : Option DraftOperator → Result (Unit {0}) CardFault
fault None = Ok tt
fault (Some o) = Err (NoEffect (line_of (plain o.name)))

fault_first : (b : Bool) (o : DraftOperator) (r : Option DraftOperator) → fault (cond b (Some o) r) ≡ cond b (fault (Some o)) (fault r)
fault_first true o r = refl
fault_first false o r = refl

pub fault_found : (xs : List DraftOperator) → fault (find bare xs) ≡ effective (map placed xs)
fault_found [] = refl
fault_found (o ∷ os) =
    fault_first (bare o) o (find bare os)
    ∙ ap (cond (bare o) (fault (Some o))) (fault_found os)
    ∙ ap (λ n. cond (eqb n 0) (fault (Some o)) (effective (map placed os))) o.effects.ok.0

-- a factor past the limit may be cut
capped : (n p : ℕ) → leb (n * p) 1048576 ≡ leb (min n 4294967295 * p) 1048576
capped n zero = ap (λ k. leb k 1048576) (mul-zero n ∙ sym (mul-zero (min n 4294967295)))
capped n (suc p) =
    ⊎_elim
    (λ l. let b : n ≤ 4294967295 = omega arith in ap (λ k. leb (k * suc p) 1048576) (sym (min-eq_left b)))
    (λ l.
    let q : 0 < suc p = omega arith in
    let m : min n 4294967295 ≡ 4294967295 = min-eq_right l in
    let left : 1048576 < n * suc p = omega (arith, le-mul_of_pos_right n q) in
    let right : 1048576 < 4294967295 * suc p = omega arith in
    lt-leb _ _ left ∙ sym (ap (λ k. leb (k * suc p) 1048576) m ∙ lt-leb _ _ right))
    (cases_lt n 4294967295)

-- the sizes multiplied, each product up to the largest u32, are within the limit just if their product is
pub states_fold : (s : ℕ) (xs : List Variable) → leb (fold (λ (n : ℕ) (v : Variable). min (n * v.size) 4294967295) s xs) 1048576 ≡ leb (s * product (sizes (map plain_var xs))) 1048576
states_fold s [] = ap (λ n. leb n 1048576) (sym (mul-one s))
states_fold s (v ∷ xs) =
    let rest : ℕ = product (sizes (map plain_var xs)) in
    states_fold (min (s * v.size) 4294967295) xs ∙ sym (capped (s * v.size) rest) ∙ ap (λ k. leb k 1048576) (mul_assoc s v.size rest)
