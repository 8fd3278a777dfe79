-- Answers carried from one definition to another.
use Rattle.std.proofs.Common.{◌≡◌, ℕ, ◌+◌, ◌∷◌, ◌≤◌, List, length, Ok, Err, Result, sym, ap, ◌∙◌}
use Rattle.std.proofs.lemmas.Bool.{cond-true, le-leb}
use Rattle.fields.specs.Text.{pieces}
use Rattle.fields.specs.declared.faults.LineFault.{LineFault}
use Rattle.cards.specs.declared.CardFault.{CardFault}
use Rattle.cards.specs.declared.CardFault.TheVariants.{Memory, TooLong, InLine, NoVariable, NoEffect, TooManyStates}
use Rattle.cards.specs.Faults.{Tells}
use Rattle.cards.specs.Reading.{Reading, in_line, line_on, read_on, nothing, whole, reading, ◌>>=◌}
use Rattle.drafts.specs.Told.{TellsLine, GivesLine}

-- a fault goes on, where what was asked has the same one
pub told_err : (V : Type 0) {U X Y : Type 0} (g : U → X) (e : CardFault) (y : Y) (w : Result X LineFault) (z : Result Y LineFault) → ((d : LineFault) → w ≡ Err d → z ≡ Err d) → TellsLine g (Err e) w → GivesLine {U = V} (Err e) y z
told_err V g Memory y w z f t = tt
told_err V g TooLong y w z f t = t
told_err V g (InLine d) y w z f t = f d t
told_err V g NoVariable y w z f t = t
told_err V g (NoEffect l) y w z f t = t
told_err V g TooManyStates y w z f t = t

-- a fault of a line is that of the lines from it on
pub line_err : (V : Type 0) {U : Type 0} (f : U → Reading) (e : CardFault) (y : Reading) (l : ℕ) (s : Reading) (text : List ℕ) (texts : List (List ℕ)) (w : Result Reading LineFault) → w ≡ read_on l s (text ∷ texts) → GivesLine {U = V} (Err e) y (line_on l s text) → TellsLine f (Err e) w
line_err V f Memory y l s text texts w h t = tt
line_err V f TooLong y l s text texts w h t = t
line_err V f (InLine d) y l s text texts w h t = h ∙ ap (λ r. r >>= (λ u. read_on (l + 1) u texts)) t
line_err V f NoVariable y l s text texts w h t = t
line_err V f (NoEffect n) y l s text texts w h t = t
line_err V f TooManyStates y l s text texts w h t = t

-- a card that is not too long is read line by line, then tested as a whole
pub reading_on : (bytes : List ℕ) (q : Result Reading LineFault) → length bytes ≤ 16384 → read_on 1 nothing (pieces 10 bytes) ≡ q → reading bytes ≡ (in_line q >>= whole)
reading_on bytes q h e = cond-true _ _ _ (le-leb _ _ h) ∙ ap (λ r. in_line r >>= whole) e

-- a fault of a line is the card's
pub reading_err : {U : Type 0} (f : U → Reading) (e : CardFault) (bytes : List ℕ) → length bytes ≤ 16384 → TellsLine f (Err e) (read_on 1 nothing (pieces 10 bytes)) → Tells f (Err e) (reading bytes)
reading_err f Memory bytes h t = tt
reading_err f TooLong bytes h t = absurd t
reading_err f (InLine d) bytes h t = reading_on bytes (Err d) h t
reading_err f NoVariable bytes h t = absurd t
reading_err f (NoEffect l) bytes h t = absurd t
reading_err f TooManyStates bytes h t = absurd t

tells_err : {U X : Type 0} (f : U → X) (e : CardFault) (w : Result X CardFault) → w ≡ Err e → Tells f (Err e) w
tells_err f Memory w t = tt
tells_err f TooLong w t = t
tells_err f (InLine d) w t = t
tells_err f NoVariable w t = t
tells_err f (NoEffect l) w t = t
tells_err f TooManyStates w t = t

-- a fault of the whole card, of which s was read
pub reading_whole : {U : Type 0} (f : U → Reading) (e : CardFault) (bytes : List ℕ) (s : Reading) → length bytes ≤ 16384 → read_on 1 nothing (pieces 10 bytes) ≡ Ok s → Err e ≡ whole s → Tells f (Err e) (reading bytes)
reading_whole f e bytes s h r w = tells_err f e (reading bytes) (reading_on bytes (Ok s) h r ∙ sym w)
