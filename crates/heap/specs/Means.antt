-- What a `Heap` means as a waiting list: its keys by rank, in order where the ranks that wait form a heap.
use Rattle.std.specs.Prelude.{ℕ, Bool, None, vec_items, vec_len, Option, slice_index_or}
use Rattle.heap.specs.declared.store.Heap.{Heap}
use Rattle.heap.specs.Rows.{Heaped, before}

abbrev pub heap_places : {K : Type 0} → Heap K → ℕ
heap_places h = vec_len h.keys

abbrev pub heap_waiting : {K : Type 0} → Heap K → ℕ → Option K
heap_waiting h q = slice_index_or (vec_items h.keys) q None

-- whether one rank comes before another
abbrev pub heap_before : {K : Type 0} → (K → K → Bool) → Heap K → ℕ → ℕ → Bool
heap_before leq h = before leq (vec_items h.keys)

abbrev pub heap_ordered : {K : Type 0} → (K → K → Bool) → Heap K → Type 0
heap_ordered leq h = Heaped (heap_before leq h) (vec_items h.ranking.order) h.count
