-- Lists and vectors, as plain values.
use Rattle.std.proofs.Common.{◌≡◌, ℕ, zero, suc, ◌<◌, ◌||◌, eqb, List, [], ◌∷◌, map, length, get_or, vec_items, vec_len, Vec, sym, refl, ap, ◌∙◌, arith}
use Rattle.std.specs.declared.alloc.Global.{Global}
use Rattle.std.proofs.lemmas.List.{length-map}
use Rattle.std.specs.List.{list_any}
use Rattle.cards.specs.Content.{sizes}
use Rattle.cards.specs.Reading.{member}
use Rattle.drafts.specs.View.{plain_var}
use Rattle.drafts.specs.declared.parts.Variable.{Variable}

-- how many a Vec has, as plain values
pub count : {X Y : Type 0} (f : X → Y) (v : Vec X Global) → vec_len v ≡ length (map f (vec_items v))
count f v = v.ok.0 ∙ sym (length-map (vec_items v) f)

pub size_at : (xs : List Variable) (v : ℕ) (d : Variable) → v < length xs → (get_or xs v d).size ≡ get_or (sizes (map plain_var xs)) v 0
size_at [] v d h = absurd (omega arith)
size_at (x ∷ xs) zero d h = refl
size_at (x ∷ xs) (suc v) d h = size_at xs v d (omega arith)

-- whether v is of one of the elements
pub any_map : {X : Type 0} (of : X → ℕ) (v : ℕ) (xs : List X) → list_any (λ x. eqb (of x) v) xs ≡ member v (map of xs)
any_map of v [] = refl
any_map of v (x ∷ xs) = ap (λ t. eqb (of x) v || t) (any_map of v xs)
