-- What a table is asked for: a pattern, and a share for each operator.
use Rattle.std.specs.Prelude.{◌≡◌, ℕ, ◌<◌, ◌≤◌, List, length, slice_index}
use Rattle.sas.specs.Model.{Model}

pub record TableInput (m : Model) (pattern shares : List ℕ) : Type 0 where
  pub some : 1 ≤ length pattern
  pub inside : (i : ℕ) → i < length pattern → slice_index pattern i < length m.sizes
  pub count : length shares ≡ length m.operators
  pub light : (o : ℕ) → o < length shares → slice_index shares o ≤ 65535
