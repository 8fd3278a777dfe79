-- The step that is begun is the one that is done.
use Rattle.std.proofs.Common.{◌≡◌, Ok, Err, Result, refl, ap, subst}
use Rattle.session.specs.Bench.{Bench, bench}
use Rattle.session.specs.Changes.{finished}
use Rattle.session.specs.Tickets.{returned}
use Rattle.session.specs.declared.session.refusal.Refusal.{Refusal}
use Rattle.session.specs.declared.session.steps.Ticket.{Ticket}
use Rattle.following.proofs.step.Goals as goal

kept_ticket : (t : Ticket) (r : Result Bench Refusal) (b : Bench) → Ok b ≡ returned t r → Ok b ≡ r
kept_ticket t (Ok c) b h = cc
kept_ticket t (Err e) b h = let z : ⊥ = cc in absurd z

pub returns : goal.returns
returns c =
    let b = bench c.begin.new.self in
    let d = bench c.done.new.self in
    let same = ap (λ (t : Ticket). t.operator) c.in_ok-ticket.ensures.ticket in
    let done = kept_ticket c.in_ok-ticket.ticket _ d c.in-Ok.ensures.ended.answered in
    (b, (Ok b, c.in_ok-ticket.ensures.answer, refl), (d, (Ok d, subst (λ o. Ok d ≡ finished o b) same done, refl), refl))
