-- Rows of keys: a key stands below the length.
use Rattle.std.proofs.Common.{◌≡◌, ℕ, ◌<◌, List, length, get_or, Some, None, Option, arith}
use native.Mathlib.Decide.{dec_lt}
use Rattle.std.proofs.lemmas.List.{get_or_past}

pub some_within : {K : Type 0} (xs : List (Option K)) (q : ℕ) (k : K) → get_or xs q None ≡ Some k → q < length xs
some_within xs q k e =
    elim (dec_lt q (length xs)) [
      | yes lt ↦ lt
      | no above ↦
          let past : get_or xs q None ≡ None = get_or_past xs q None (omega arith) in
          let z : ◌≡◌ {A = ℕ} 0 1 = cc in
          omega arith
    ]
