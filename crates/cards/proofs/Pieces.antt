-- The pieces of lines and of fields that were joined are those lines and fields; and pieces joined again are the text.
use Rattle.std.proofs.Common.{◌≡◌, ℕ, ◌<◌, eqb, List, [], ◌∷◌, ◌++◌, length, sym, refl, ap, ◌∙◌, append_assoc, arith}
use Rattle.std.specs.List.{flat_map, AllByRecursion}
use Rattle.std.proofs.lemmas.Bool.{cond-true, cond-false, cond_both, eq-eqb, ne_eqb, eqb-true}
use Rattle.fields.specs.Text.{pieces, onto}
use Rattle.cards.specs.Spelling.{tabbed}

-- no byte s
abbrev pub Free : ℕ → List ℕ → Type 0
Free s xs = AllByRecursion (λ b. b ≡ s → ⊥) xs

pub piece_more : (s : ℕ) (xs ys : List ℕ) → Free s xs → pieces s (xs ++ s ∷ ys) ≡ xs ∷ pieces s ys
piece_more s [] ys f = cond-true _ _ _ (eq-eqb s s refl)
piece_more s (x ∷ xs) ys f = cond-false _ _ _ (ne_eqb x s f.0) ∙ ap (onto x) (piece_more s xs ys f.1)

pub piece_last : (s : ℕ) (xs : List ℕ) → Free s xs → pieces s xs ≡ xs ∷ []
piece_last s [] f = refl
piece_last s (x ∷ xs) f = cond-false _ _ _ (ne_eqb x s f.0) ∙ ap (onto x) (piece_last s xs f.1)

pub pieces_tabbed : (first : List ℕ) (rest : List (List ℕ)) → Free 9 first → AllByRecursion (Free 9) rest → pieces 9 (tabbed first rest) ≡ first ∷ rest
pieces_tabbed first [] f g = piece_last 9 first f
pieces_tabbed first (next ∷ more) f g = piece_more 9 first (tabbed next more) f ∙ ap (◌∷◌ first) (pieces_tabbed next more g.0 g.1)

-- lines that each end with byte 10, and what stands after the last of them
pub pieces_lines : (lines : List (List ℕ)) → AllByRecursion (Free 10) lines → pieces 10 (flat_map (λ l. l ++ 10 ∷ []) lines) ≡ lines ++ [] ∷ []
pieces_lines [] f = refl
pieces_lines (l ∷ ls) f =
    ap (pieces 10) (append_assoc l (10 ∷ []) (flat_map (λ l. l ++ 10 ∷ []) ls))
    ∙ piece_more 10 l (flat_map (λ l. l ++ 10 ∷ []) ls) f.0 ∙ ap (◌∷◌ l) (pieces_lines ls f.1)

-- fields that are joined again by tabs
abbrev pub rejoined : List (List ℕ) → List ℕ
rejoined [] = []
rejoined (first ∷ rest) = tabbed first rest

onto_some : (b : ℕ) (ps : List (List ℕ)) → 0 < length (onto b ps)
onto_some b [] = omega arith
onto_some b (p ∷ ps) = omega arith

pieces_some : (s : ℕ) (bs : List ℕ) → 0 < length (pieces s bs)
pieces_some s [] = omega arith
pieces_some s (b ∷ bs) = cond_both (eqb b s) _ _ (λ ps. 0 < length ps) (λ _. omega arith) (λ _. onto_some b (pieces s bs))

rejoined_tab : (ps : List (List ℕ)) → 0 < length ps → tabbed [] ps ≡ 9 ∷ rejoined ps
rejoined_tab [] h = absurd (omega arith)
rejoined_tab (p ∷ ps) h = refl

rejoined_onto : (b : ℕ) (ps : List (List ℕ)) → rejoined (onto b ps) ≡ b ∷ rejoined ps
rejoined_onto b [] = refl
rejoined_onto b (p ∷ []) = refl
rejoined_onto b (p ∷ q ∷ qs) = refl

pub rejoined_pieces : (bs : List ℕ) → rejoined (pieces 9 bs) ≡ bs
rejoined_pieces [] = refl
rejoined_pieces (b ∷ bs) =
    cond_both (eqb b 9) ([] ∷ pieces 9 bs) (onto b (pieces 9 bs)) (λ ps. rejoined ps ≡ b ∷ bs)
    (λ e. rejoined_tab (pieces 9 bs) (pieces_some 9 bs) ∙ ap (λ x. x ∷ rejoined (pieces 9 bs)) (sym (eqb-true b 9 e)) ∙ ap (◌∷◌ b) (rejoined_pieces bs))
    (λ _. rejoined_onto b (pieces 9 bs) ∙ ap (◌∷◌ b) (rejoined_pieces bs))
