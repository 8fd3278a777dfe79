-- The number of each reason for which a put is refused.
use Rattle.std.specs.Prelude.{ℕ}
use Rattle.lists.specs.declared.PutRefusal.{PutRefusal}
use Rattle.lists.specs.declared.PutRefusal.TheVariants.{NoPlace}

abbrev pub refusal_number : PutRefusal → ℕ
refusal_number NoPlace = 17
