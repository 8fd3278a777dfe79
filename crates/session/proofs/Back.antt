-- A row that is changed and put back.
use Rattle.std.proofs.Common.{◌≡◌, ℕ, List, set, ap, ◌∙◌}
use Rattle.std.proofs.lemmas.List.{set-set, set-get_or}
use Rattle.session.specs.Rows.{freed, row_at}
use Rattle.session.specs.Bench.{Bench, with_row, with_rows}
use Rattle.sas.specs.declared.Row.{Row}

pub here : (b : Bench) (i : ℕ) (r : Row) → r ≡ row_at b.rows i → with_row b i r ≡ b
here b i r e = ap (with_row b i) e ∙ ap (with_rows b) (set-get_or b.rows i (freed 0))

pub back : (b : Bench) (xs : List Row) (i : ℕ) (r old : Row) → xs ≡ set b.rows i r → old ≡ row_at b.rows i → with_row (with_rows b xs) i old ≡ b
back b xs i r old e f =
    ap (λ (ys : List Row). with_rows b (set ys i old)) e ∙ ap (with_rows b) (set-set b.rows i r old) ∙ here b i old f
