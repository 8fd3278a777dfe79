-- What a cursor over pieces has still to give.
use Rattle.std.specs.Prelude.{ℕ, List, [], Some, None, Option}
use Rattle.std.specs.Borrow.{Bor}
use Rattle.fields.specs.declared.pieces.Pieces.{Pieces}
use Rattle.fields.specs.Text.{pieces}

abbrev pub left_of : ℕ → Option (Bor (List ℕ)) → List (List ℕ)
left_of s None = []
left_of s (Some r) = pieces s r.now

abbrev pub left : Pieces → List (List ℕ)
left p = left_of p.at p.rest
