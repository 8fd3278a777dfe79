-- When a table is not built, when entries open as a table, and the numbers of refusals; want of memory has none.
use Rattle.std.specs.Prelude.{ℕ, ◌≤◌, List, length, Some, None, Option}
use Rattle.projections.specs.Projection.{among, projected}
use Rattle.sas.specs.Model.{Model}
use Rattle.sas.specs.Ranks.{states}
use Rattle.tables.specs.Costs.{share}
use Rattle.tables.specs.Entries.{Obeys}
use Rattle.tables.specs.Input.{TableInput}
use Rattle.tables.specs.declared.refusal.TableRefusal.{TableRefusal}
use Rattle.tables.specs.declared.refusal.TableRefusal.TheVariants.{Input, Room, Entry, Memory}

abbrev pub number_of : TableRefusal → Option ℕ
number_of Input = Some 16
number_of Room = Some 17
number_of Entry = Some 21
number_of Memory = None

-- why there is no graph of a pattern with these shares
abbrev pub WhyNotWeighted : Model → List ℕ → List ℕ → TableRefusal → Type 0
WhyNotWeighted m pattern shares Input = TableInput m pattern shares → ⊥
WhyNotWeighted m pattern shares Room = ⊥
WhyNotWeighted m pattern shares Entry = ⊥
WhyNotWeighted m pattern shares Memory = TableInput m pattern shares

-- why no table was built in so many entries with a list of so many places
abbrev pub WhyNotBuilt : Model → List ℕ → List ℕ → ℕ → ℕ → TableRefusal → Type 0
WhyNotBuilt m pattern shares entries places Input = TableInput m pattern shares → ⊥
WhyNotBuilt m pattern shares entries places Room = TableInput m pattern shares × ((states (projected (among pattern) m) ≤ entries) × (states (projected (among pattern) m) ≤ places) → ⊥)
WhyNotBuilt m pattern shares entries places Entry = ⊥
WhyNotBuilt m pattern shares entries places Memory = TableInput m pattern shares

-- the entries open as a table of this pattern with these shares
pub record Opens (m : Model) (pattern shares entries : List ℕ) : Type 0 where
  pub input : TableInput m pattern shares
  pub long : states (projected (among pattern) m) ≤ length entries
  pub obeys : Obeys (projected (among pattern) m) (share shares) entries

-- why they did not
abbrev pub WhyNotOpened : Model → List ℕ → List ℕ → List ℕ → TableRefusal → Type 0
WhyNotOpened m pattern shares entries Input = TableInput m pattern shares → ⊥
WhyNotOpened m pattern shares entries Room = TableInput m pattern shares × (states (projected (among pattern) m) ≤ length entries → ⊥)
WhyNotOpened m pattern shares entries Entry = TableInput m pattern shares × (states (projected (among pattern) m) ≤ length entries) × (Obeys (projected (among pattern) m) (share shares) entries → ⊥)
WhyNotOpened m pattern shares entries Memory = TableInput m pattern shares
