-- States that differ in some variables: their choices of values, by number and by rank.
use Rattle.std.proofs.Common.{◌≡◌, ℕ, ◌+◌, ◌*◌, ◌/◌, ◌%◌, ◌<◌, ◌≤◌, List, [], ◌∷◌, length, get_or, set, sym, refl, ap, ◌∙◌, mod-lt, mod-eq_of_lt, mul-le-mul_left, zero-add, zero-mul, mul-one, mul-add, arith, length-set, get_or-set_other, get_or-set_same}
use native.Mathlib.Decide.{ℕ_discrete}
use native.Mathlib.Nat.{add-mul-div_left, add-mul-mod_self_left, div-eq_of_lt}
use Rattle.std.specs.List.{AllByRecursion}
use Rattle.std.proofs.ByRecursion.{All-get_or}
use Rattle.std.proofs.lemmas.List.{ext_get_or}
use Rattle.sas.specs.Model.{Distinct}
use Rattle.sas.specs.Ranks.{coefficient, rank}
use Rattle.sas.specs.States.{State}
use Rattle.sas.proofs.Digits.{rank_set}
use Rattle.sas.proofs.Outcomes.{state_set}
use Rattle.projections.specs.Origins.{ways, offset}

-- v is none of the variables
abbrev pub Off : List ℕ → ℕ → Type 0
Off vs v = AllByRecursion (λ w. w ≡ v → ⊥) vs

-- the n-th choice, written into a state
abbrev pub fill : List ℕ → List ℕ → ℕ → List ℕ → List ℕ
fill sizes [] n s = s
fill sizes (v ∷ vs) n s = fill sizes vs (n / get_or sizes v 0) (set s v (n % get_or sizes v 0))

-- the number of the choice that a state has
abbrev pub code : List ℕ → List ℕ → List ℕ → ℕ
code sizes [] x = 0
code sizes (v ∷ vs) x = get_or x v 0 + get_or sizes v 0 * code sizes vs x

pub fill_keeps : (sizes vs : List ℕ) (n : ℕ) (s : List ℕ) (v : ℕ) → Off vs v → get_or (fill sizes vs n s) v 0 ≡ get_or s v 0
fill_keeps sizes [] n s v off = refl
fill_keeps sizes (w ∷ vs) n s v off =
    let x = n % get_or sizes w 0 in
    fill_keeps sizes vs (n / get_or sizes w 0) (set s w x) v off.1 ∙ get_or-set_other s w v x 0 (λ e. off.0 (sym e))

pub fill_state : (sizes vs : List ℕ) (n : ℕ) (s : List ℕ) → AllByRecursion (λ z. 0 < z) sizes → AllByRecursion (λ v. v < length sizes) vs → State sizes s → State sizes (fill sizes vs n s)
fill_state sizes [] n s pos inside h = h
fill_state sizes (v ∷ vs) n s pos inside h =
    let x = n % get_or sizes v 0 in
    fill_state sizes vs (n / get_or sizes v 0) (set s v x) pos inside.1 (state_set sizes s v x h (inside.0, mod-lt n (All-get_or (λ z. 0 < z) sizes v 0 inside.0 pos)))

-- other variables than v stay at 0
zeros_stay : (s vs : List ℕ) (v x : ℕ) → AllByRecursion (λ w. v ≡ w → ⊥) vs → AllByRecursion (λ w. get_or s w 0 ≡ 0) vs → AllByRecursion (λ w. get_or (set s v x) w 0 ≡ 0) vs
zeros_stay s [] v x apart zeros = tt
zeros_stay s (w ∷ vs) v x apart zeros = (get_or-set_other s v w x 0 (λ e. apart.0 (sym e)) ∙ zeros.0, zeros_stay s vs v x apart.1 zeros.1)

-- the rank of a choice, from the rank where all are 0
pub rank_fill : (sizes vs : List ℕ) (n : ℕ) (s : List ℕ) → Distinct vs → AllByRecursion (λ v. v < length sizes) vs → length s ≡ length sizes → AllByRecursion (λ v. get_or s v 0 ≡ 0) vs → rank sizes (fill sizes vs n s) ≡ rank sizes s + offset sizes vs n
rank_fill sizes [] n s distinct inside even zeros = omega arith
rank_fill sizes (v ∷ vs) n s distinct inside even zeros =
    let x = n % get_or sizes v 0 in
    let c = coefficient sizes v in
    let here : get_or s v 0 * c ≡ 0 = ap (λ d. d * c) zeros.0 ∙ zero-mul c in
    let one = rank_set sizes s v x inside.0 even in
    let rest = rank_fill sizes vs (n / get_or sizes v 0) (set s v x) distinct.1 inside.1 (length-set s v x ∙ even) (zeros_stay s vs v x distinct.0 zeros.1) in
    omega arith

pub code_below : (sizes vs x : List ℕ) → AllByRecursion (λ v. v < length sizes) vs → State sizes x → code sizes vs x < ways sizes vs
code_below sizes [] x inside h = omega arith
code_below sizes (v ∷ vs) x inside h =
    let z = get_or sizes v 0 in
    let r = code sizes vs x in
    let one : r + 1 ≤ ways sizes vs = omega (arith, code_below sizes vs x inside.1 h) in
    omega (arith, h.1 v inside.0, mul-le-mul_left z one, mul-add z r 1, mul-one z)

-- each state that agrees elsewhere is filled in
pub fill_code : (sizes vs s x : List ℕ) → AllByRecursion (λ v. v < length sizes) vs → State sizes x → length s ≡ length x → ((v : ℕ) → Off vs v → get_or s v 0 ≡ get_or x v 0) → fill sizes vs (code sizes vs x) s ≡ x
fill_code sizes [] s x inside h even agree = ext_get_or 0 s x even (λ v l. agree v tt)
fill_code sizes (w ∷ vs) s x inside h even agree =
    let z = get_or sizes w 0 in
    let d = get_or x w 0 in
    let r = code sizes vs x in
    let low : d < z = h.1 w inside.0 in
    let pos : 0 < z = omega arith in
    let digit : (d + z * r) % z ≡ d = add-mul-mod_self_left d z r ∙ mod-eq_of_lt low in
    let rest : (d + z * r) / z ≡ r = add-mul-div_left d r pos ∙ ap (λ n. n + r) (div-eq_of_lt low) ∙ zero-add r in
    ap (λ n. fill sizes vs ((d + z * r) / z) (set s w n)) digit
    ∙ ap (λ n. fill sizes vs n (set s w d)) rest
    ∙ fill_code sizes vs (set s w d) x inside.1 h (length-set s w d ∙ even) (λ v off. elim (ℕ_discrete v w) [
      | yes q ↦
          let there : w < length s = omega (arith, inside.0, h.0) in
          ap (λ i. get_or (set s w d) i 0) q ∙ get_or-set_same s w d 0 there ∙ ap (λ i. get_or x i 0) (sym q)
      | no n ↦ get_or-set_other s w v d 0 n ∙ agree v (λ e. n (sym e), off)
    ])
