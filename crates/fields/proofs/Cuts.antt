-- The pieces of a text, from where the first separator stands.
use Rattle.std.proofs.Common.{◌≡◌, ℕ, zero, suc, ◌+◌, ◌-◌, ◌<◌, ◌≤◌, eqb, List, [], ◌∷◌, length, get_or, take, drop, refl, ap, ◌∙◌, add-one, arith}
use Rattle.std.proofs.lemmas.List.{take_rest}
use Rattle.std.proofs.lemmas.Bool.{cond-true, cond-false, cond_both, eq-eqb, ne_eqb}
use Rattle.fields.specs.Text.{pieces, onto}

pub piece_cut : (s : ℕ) (xs : List ℕ) (n : ℕ) → n < length xs → ((k : ℕ) → k < n → get_or xs k 0 ≡ s → ⊥) → get_or xs n 0 ≡ s → pieces s xs ≡ take n xs ∷ pieces s (drop (suc n) xs)
piece_cut s [] n h b f = absurd (omega arith)
piece_cut s (x ∷ xs) zero h b f = cond-true _ _ _ (eq-eqb x s f)
piece_cut s (x ∷ xs) (suc n) h b f =
    cond-false _ _ _ (ne_eqb x s (b 0 (omega arith))) ∙ ap (onto x) (piece_cut s xs n (omega arith) (λ k l. b (suc k) (omega arith)) f)

pub piece_all : (s : ℕ) (xs : List ℕ) → ((k : ℕ) → k < length xs → get_or xs k 0 ≡ s → ⊥) → pieces s xs ≡ xs ∷ []
piece_all s [] b = refl
piece_all s (x ∷ xs) b =
    cond-false _ _ _ (ne_eqb x s (b 0 (omega arith))) ∙ ap (onto x) (piece_all s xs (λ k l. b (suc k) (omega arith)))

-- `&text[n + 1..]`
pub rest_after : (xs : List ℕ) (n : ℕ) → take (length xs - (n + 1)) (drop (n + 1) xs) ≡ drop (suc n) xs
rest_after xs n = take_rest xs (n + 1) ∙ ap (λ k. drop k xs) (add-one n)

onto_within : (b : ℕ) (ps : List (List ℕ)) (n : ℕ) → length ps ≤ n + 1 → length (onto b ps) ≤ suc n + 1
onto_within b [] n h = omega arith
onto_within b (p ∷ ps) n h = omega arith

pub pieces_count : (s : ℕ) (xs : List ℕ) → length (pieces s xs) ≤ length xs + 1
pieces_count s [] = omega arith
pieces_count s (x ∷ xs) =
    cond_both (eqb x s) ([] ∷ pieces s xs) (onto x (pieces s xs)) (λ ps. length ps ≤ length (x ∷ xs) + 1)
    (λ e. omega (arith, pieces_count s xs))
    (λ e. onto_within x (pieces s xs) (length xs) (pieces_count s xs))
