-- What is handed back of a ticket.
use Rattle.std.specs.Prelude.{Ok, Err, Result}
use Rattle.session.specs.declared.session.refusal.Refusal.{Refusal}
use Rattle.session.specs.declared.session.steps.Ticket.{Ticket}
use Rattle.session.specs.declared.session.steps.Returned.{Returned}

-- a ticket comes back with the refusal
abbrev pub returned : {X : Type 0} → Ticket → Result X Refusal → Result X Returned
returned t (Ok x) = Ok x
returned t (Err e) = Err (record { ticket = t; refusal = e })
