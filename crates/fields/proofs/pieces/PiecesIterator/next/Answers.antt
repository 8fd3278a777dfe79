-- The piece before the next separator, and what is left after it.
use Rattle.std.proofs.Common.{◌≡◌, ℕ, ◌<◌, ◌∷◌, length, get_or, take, sym, ap, ◌∙◌, arith}
use Rattle.std.proofs.lemmas.Grind.{common_steps}
use Rattle.fields.specs.Text.{pieces}
use Rattle.fields.specs.Cursor.{left_of}
use Rattle.fields.proofs.Cuts.{piece_cut, piece_all, rest_after}
use Rattle.fields.proofs.pieces.PiecesIterator.next.Goals as goal

pub returns-in-Some : goal.returns-in-Some
returns-in-Some c =
    let xs = c.in_ok-text.text.now in
    let s = c.args.self.now.at in
    let n = c.in-Some.n in
    let before : (k : ℕ) → k < n → get_or xs k 0 ≡ s → ⊥ = λ k h. grind (arith, common_steps) in
    let found : get_or xs n 0 ≡ s = grind (arith, common_steps) in
    let cut = ap (left_of s) c.in_ok-text.was ∙ piece_cut s xs n (grind (arith, common_steps)) before found ∙ ap (λ r. take n xs ∷ pieces s r) (sym (rest_after xs n)) in
    record { steps = cut; goes = record { on = λ _. (tt, tt, omega (arith, ap length cut)); keeps = tt; rests = λ _. tt } }

pub returns-in-None : goal.returns-in-None
returns-in-None c =
    let xs = c.in_ok-text.text.now in
    let s = c.args.self.now.at in
    let none : (k : ℕ) → k < length xs → get_or xs k 0 ≡ s → ⊥ = λ k h. grind (arith, common_steps) in
    let all = ap (left_of s) c.in_ok-text.was ∙ piece_all s xs none in
    record { steps = all; goes = record { on = λ _. (tt, tt, omega (arith, ap length all)); keeps = tt; rests = λ _. tt } }
