-- A number, if there is one, of at most a limit.
use Rattle.std.specs.Prelude.{ℕ, cond, Some, None, Option, nat_le}

abbrev pub within : ℕ → Option ℕ → Option ℕ
within limit None = None
within limit (Some n) = cond (nat_le n limit) (Some n) None
