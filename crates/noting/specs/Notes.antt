-- What a log tells of the takes from a list.
use Rattle.std.specs.Prelude.{◌≡◌, ◌≤◌, true, false, ◌⊎◌, List, [], ◌∷◌, ◌++◌, Some, None, vec_items, vec_len, vec_capacity, Option}
use Rattle.std.specs.Option.{option_to_list}
use Rattle.noting.specs.declared.Log.{Log}

module _ {P : Type 0} where
  -- the log has these takes and no other, unless a note was lost
  abbrev pub Logs : List P → Log P → Type 0
  Logs takes log = log.complete ≡ true → vec_items log.pairs ≡ takes

  -- no take is noted, and none is lost
  pub record Blank (log : Log P) : Type 0 where
    pub notes : vec_items log.pairs ≡ []
    pub whole : log.complete ≡ true

  pub record Grew (log : Log P) (p : P) (log' : Log P) : Type 0 where
    pub was : log.complete ≡ true
    pub still : log'.complete ≡ true
    pub notes : vec_items log'.pairs ≡ vec_items log.pairs ++ p ∷ []

  -- a note is lost only where the log is full, or after another was lost
  pub record Lost (log log' : Log P) : Type 0 where
    pub broken : log'.complete ≡ false
    pub notes : vec_items log'.pairs ≡ vec_items log.pairs
    pub why : log.complete ≡ true → vec_capacity log.pairs ≤ vec_len log.pairs

  -- what a take does to the log, by its answer
  abbrev pub Noted : Log P → Option P → Log P → Type 0
  Noted log None log' = log' ≡ log
  Noted log (Some p) log' = Grew log p log' ⊎ Lost log log'

  -- whatever was taken before, the log goes on to tell of all takes
  abbrev pub Follows : Log P → Option P → Log P → Type 0
  Follows log r log' = (takes : List P) → Logs takes log → Logs (takes ++ option_to_list r) log'
