-- What holds of the value that a chain of steps makes, from what holds after each step.
use Rattle.std.proofs.Common.{◌≡◌, Bool, true, false, cond, IfOk, Ok, Err, Result, refl}
use Rattle.fields.specs.declared.faults.FieldFault.{FieldFault}
use Rattle.fields.specs.declared.faults.LineFault.{LineFault}
use Rattle.fields.specs.Lines.{map_ok}
use Rattle.cards.specs.Reading.{◌>>=◌, in_field, in_line}

pub made_bind : {X Y E : Type 0} (Q : X → Type 0) (P : Y → Type 0) (r : Result X E) (f : X → Result Y E) → IfOk r Q → ((x : X) → Q x → IfOk (f x) P) → IfOk (r >>= f) P
made_bind Q P (Ok x) f h k = k x h
made_bind Q P (Err e) f h k = tt

pub made_map_ok : {X Y E : Type 0} (P : Y → Type 0) (f : X → Y) (r : Result X E) → IfOk r (λ x. P (f x)) → IfOk (map_ok f r) P
made_map_ok P f (Ok x) h = h
made_map_ok P f (Err e) h = tt

pub made_in_field : {X : Type 0} (P : X → Type 0) (r : Result X FieldFault) → IfOk r P → IfOk (in_field r) P
made_in_field P (Ok x) h = h
made_in_field P (Err e) h = tt

pub made_in_line : {X : Type 0} (P : X → Type 0) (r : Result X LineFault) → IfOk r P → IfOk (in_line r) P
made_in_line P (Ok x) h = h
made_in_line P (Err e) h = tt

-- a test that has to pass
pub made_test : {X E : Type 0} (P : X → Type 0) (b : Bool) (r : Result X E) (e : E) → (b ≡ true → IfOk r P) → IfOk (cond b r (Err e)) P
made_test P true r e h = h refl
made_test P false r e h = tt

-- a test that has to fail
pub made_unless : {X E : Type 0} (P : X → Type 0) (b : Bool) (e : E) (r : Result X E) → (b ≡ false → IfOk r P) → IfOk (cond b (Err e) r) P
made_unless P true e r h = tt
made_unless P false e r h = h refl
