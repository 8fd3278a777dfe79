-- With no key, no rank waits.
use Rattle.std.proofs.Common.{◌≡◌, ℕ, get_or, None, arith}
use Rattle.std.proofs.lemmas.Grind.{common_steps}
use Rattle.heap.proofs.Keys.{sound_none}
use Rattle.heap.proofs.store.Heap.new.Goals as goal

pub invariant_of-result : goal.invariant_of-result
invariant_of-result g c =
    let keys = c.in_ok-vec.field-0 in
    let none : (q : ℕ) → get_or keys.items q None ≡ None = λ q. grind (arith, common_steps) in record {
      sound = sound_none keys.items c.in_ok-new.field-0.order.items (omega (arith, keys.ok.0, c.in_ok-vec.ensures.len, c.in_ok-new.ensures)) none;
    }
