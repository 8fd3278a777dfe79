-- The state of a rank; states and the numbers below their count correspond one to one.
use Rattle.std.proofs.Common.{◌≡◌, ℕ, zero, suc, ◌+◌, ◌*◌, ◌/◌, ◌%◌, ◌<◌, ◌≤◌, List, [], ◌∷◌, ◌++◌, length, get_or, take, drop, set, sym, refl, ap, ◌∙◌, mod-lt, mod-eq_of_lt, mul_comm, div-lt_iff_lt-mul, add-one, arith}
use native.Mathlib.Nat.{mod-add-div, add-mul-div_left, add-mul-mod_self_left, div-eq_of_lt}
use Rattle.std.specs.List.{AllByRecursion}
use Rattle.std.proofs.lemmas.List.{drop_all, take_all, append-nil}
use Rattle.sas.specs.Model.{Model, Rules, product}
use Rattle.sas.specs.States.{State}
use Rattle.sas.specs.Ranks.{rank, states, OneToOne}
use Rattle.sas.proofs.Products.{positive}
use Rattle.sas.proofs.Horner.{horner, rank_horner, horner_below}

abbrev pub unrank : List ℕ → ℕ → List ℕ
unrank [] k = []
unrank (z ∷ zs) k = (k % z) ∷ unrank zs (k / z)

pub length_unrank : (sizes : List ℕ) (k : ℕ) → length (unrank sizes k) ≡ length sizes
length_unrank [] k = refl
length_unrank (z ∷ zs) k = ap suc (length_unrank zs (k / z))

unrank_low : (sizes : List ℕ) (k i : ℕ) → AllByRecursion (λ z. 0 < z) sizes → i < length sizes → get_or (unrank sizes k) i 0 < get_or sizes i 0
unrank_low [] k i h l = absurd (omega arith)
unrank_low (z ∷ zs) k zero h l = mod-lt k h.0
unrank_low (z ∷ zs) k (suc i) h l = unrank_low zs (k / z) i h.1 (omega arith)

horner_unrank : (sizes : List ℕ) (k : ℕ) → AllByRecursion (λ z. 0 < z) sizes → k < product sizes → horner sizes (unrank sizes k) ≡ k
horner_unrank [] k h l = omega arith
horner_unrank (z ∷ zs) k h l =
    let less : k / z < product zs = (div-lt_iff_lt-mul h.0).1 (omega (arith, mul_comm z (product zs))) in
    ap (λ n. k % z + z * n) (horner_unrank zs (k / z) h.1 less) ∙ mod-add-div k z

unrank_horner : (sizes s : List ℕ) → State sizes s → unrank sizes (horner sizes s) ≡ s
unrank_horner [] [] h = refl
unrank_horner [] (x ∷ xs) h = absurd (omega (arith, h.0))
unrank_horner (z ∷ zs) [] h = absurd (omega (arith, h.0))
unrank_horner (z ∷ zs) (x ∷ xs) h =
    let low : x < z = h.1 0 (omega arith) in
    let pos : 0 < z = omega arith in
    let r = horner zs xs in
    let m : (x + z * r) % z ≡ x = add-mul-mod_self_left x z r ∙ mod-eq_of_lt low in
    let d0 : x / z ≡ 0 = div-eq_of_lt low in
    let d1 = add-mul-div_left x r pos in
    let d : (x + z * r) / z ≡ r = omega (arith, d0, d1) in
    let rest : unrank zs r ≡ xs = unrank_horner zs xs (omega (arith, h.0), λ v within. h.1 (suc v) (omega arith)) in
    rw (m, d, rest) refl

-- of any sizes above 0
pub unrank_in : (sizes : List ℕ) → AllByRecursion (λ z. 0 < z) sizes → (k : ℕ) → State sizes (unrank sizes k)
unrank_in sizes pos k = (length_unrank sizes k, λ i l. unrank_low sizes k i pos l)

pub rank_of_unrank : (sizes : List ℕ) → AllByRecursion (λ z. 0 < z) sizes → (k : ℕ) → k < product sizes → rank sizes (unrank sizes k) ≡ k
rank_of_unrank sizes pos k l = rank_horner sizes (unrank sizes k) ∙ horner_unrank sizes k pos l

pub unrank_state : (m : Model) → Rules m → (k : ℕ) → State m.sizes (unrank m.sizes k)
unrank_state m r k = unrank_in m.sizes (positive m r) k

pub rank_unrank : (m : Model) → Rules m → (k : ℕ) → k < states m → rank m.sizes (unrank m.sizes k) ≡ k
unfolding states
rank_unrank m r k l = rank_of_unrank m.sizes (positive m r) k l

pub unrank_rank : (sizes s : List ℕ) → State sizes s → unrank sizes (rank sizes s) ≡ s
unrank_rank sizes s h = ap (unrank sizes) (rank_horner sizes s) ∙ unrank_horner sizes s h

pub rank_below : (m : Model) (s : List ℕ) → State m.sizes s → rank m.sizes s < states m
unfolding states
rank_below m s h = omega (arith, rank_horner m.sizes s, horner_below m.sizes s h)

pub rank_apart : (sizes s t : List ℕ) → State sizes s → State sizes t → rank sizes s ≡ rank sizes t → s ≡ t
rank_apart sizes s t hs ht e = sym (unrank_rank sizes s hs) ∙ ap (unrank sizes) e ∙ unrank_rank sizes t ht

pub one_to_one : (m : Model) → Rules m → OneToOne m
one_to_one m r = record {
  below = rank_below m;
  apart = rank_apart m.sizes;
  reached = λ k l. (unrank m.sizes k, unrank_state m r k, rank_unrank m r k l);
}

-- one more value of a state that is written
pub spread_more : (sizes s : List ℕ) (i rest : ℕ) (all : List ℕ) → i < length sizes → length s ≡ length sizes → take i s ++ unrank (drop i sizes) rest ≡ all → take (i + 1) (set s i (rest % get_or sizes i 0)) ++ unrank (drop (i + 1) sizes) (rest / get_or sizes i 0) ≡ all
spread_more [] s i rest all l e h = absurd (omega arith)
spread_more (z ∷ zs) [] i rest all l e h = absurd (omega arith)
spread_more (z ∷ zs) (x ∷ xs) zero rest all l e h = h
spread_more (z ∷ zs) (x ∷ xs) (suc i) rest all l e h =
    rw add-one (ap (λ ys. x ∷ ys) (rw add-one at (spread_more zs xs i rest _ (omega arith) (omega arith) refl)) ∙ h)

pub spread_all : (sizes s : List ℕ) (i rest : ℕ) (all : List ℕ) → length sizes ≤ i → length s ≡ length sizes → take i s ++ unrank (drop i sizes) rest ≡ all → s ≡ all
spread_all sizes s i rest all l e h =
    let whole : take i s ≡ s = take_all i s (omega arith) in
    let none : drop i sizes ≡ [] = drop_all i sizes l in
    sym (append-nil s) ∙ ap (λ ys. ys ++ []) (sym whole) ∙ ap (λ zs. take i s ++ unrank zs rest) (sym none) ∙ h
