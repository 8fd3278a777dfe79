-- The steps of a loop that looks for a variable twice.
use Rattle.std.proofs.Common.{◌≡◌, ℕ, ◌+◌, ◌<◌, ◌≤◌, true, false, List, length, get_or, take, drop, Ok, Err, sym, ap, ◌∙◌, arith}
use Rattle.std.proofs.lemmas.List.{at_drop_more, at_drop_all, take_more, length-take-le}
use Rattle.std.proofs.lemmas.Bool.{cond-true, cond-false}
use Rattle.fields.specs.Fields.{at}
use Rattle.fields.specs.declared.faults.FieldFault.TheVariants.{Twice}
use Rattle.fields.specs.declared.faults.LineFault.TheVariants.{InField}
use Rattle.cards.specs.Reading.{member, distinct_on}

pub distinct_more : (l : ℕ) (xs : List ℕ) (i : ℕ) → i < length xs → false ≡ member (get_or xs i 0) (take i xs) → distinct_on l (take i xs) (drop i xs) ≡ distinct_on l (take (i + 1) xs) (drop (i + 1) xs)
distinct_more l xs i h e = at_drop_more (distinct_on l (take i xs)) xs i 0 h ∙ cond-false _ _ _ (sym e) ∙ ap (λ s. distinct_on l s (drop (i + 1) xs)) (sym (take_more xs i 0 h))

pub distinct_stop : (l : ℕ) (xs : List ℕ) (i : ℕ) → i < length xs → true ≡ member (get_or xs i 0) (take i xs) → distinct_on l (take i xs) (drop i xs) ≡ Err (InField (Twice (at l (i + 2))))
distinct_stop l xs i h e = at_drop_more (distinct_on l (take i xs)) xs i 0 h ∙ cond-true _ _ _ (sym e) ∙ ap (λ n. Err (InField (Twice (at l (n + 2))))) (length-take-le i xs (omega arith))

pub distinct_none : (l : ℕ) (xs : List ℕ) (i : ℕ) → length xs ≤ i → distinct_on l (take i xs) (drop i xs) ≡ Ok tt
distinct_none l xs i h = at_drop_all (distinct_on l (take i xs)) xs i h
