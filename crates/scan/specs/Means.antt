-- What a `Scan` means as a waiting list: its row has a place for each rank, with the key under which the rank waits.
use Rattle.std.specs.Prelude.{ℕ, None, vec_items, vec_len, Option, slice_index_or}
use Rattle.scan.specs.declared.Scan.{Scan}

abbrev pub scan_places : {K : Type 0} → Scan K → ℕ
scan_places s = vec_len s.keys

abbrev pub scan_waiting : {K : Type 0} → Scan K → ℕ → Option K
scan_waiting s q = slice_index_or (vec_items s.keys) q None

-- a row is in order, whatever it holds
abbrev pub scan_ordered : {K : Type 0} → Scan K → Type 0
scan_ordered s = Unit {0}
