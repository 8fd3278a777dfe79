-- What calls lead to is one.
use Rattle.std.proofs.Common.{◌≡◌, ℕ, List, [], ◌∷◌, Ok, Err, Result, sym, ap, ◌∙◌, subst}
use Rattle.session.specs.Bench.{Bench}
use Rattle.session.specs.Begins.{BeginsUnless, hindered}
use Rattle.session.specs.Changes.{kept}
use Rattle.session.specs.Calls.{Leads, After, Replayed}
use Rattle.session.specs.declared.session.calls.Call.{Call}
use Rattle.session.specs.declared.session.calls.Call.TheVariants.{SetCost, Bar, Free, Place, Begin, Done, Abandon, Trial, Wear}
use Rattle.session.specs.declared.session.refusal.Refusal.{Refusal}

begins_agree : (h : Result (Unit {0}) Refusal) (o : ℕ) (b : Bench) (r s : Result Bench Refusal) → BeginsUnless h o b r → BeginsUnless h o b s → r ≡ s
begins_agree (Err e) o b r s p q = p ∙ sym q
begins_agree (Ok x) o b (Ok c) (Ok d) p q = ap Ok (p.1 ∙ sym q.1)
begins_agree (Ok x) o b (Ok c) (Err e) p q = absurd (q.0 p.0)
begins_agree (Ok x) o b (Err e) (Ok d) p q = absurd (p.0 q.0)
begins_agree (Ok x) o b (Err e) (Err f) p q = ap Err (p.1 ∙ sym q.1)

pub leads_agree : (call : Call) (b : Bench) (r s : Result Bench Refusal) → Leads call b r → Leads call b s → r ≡ s
leads_agree (SetCost o c) b r s p q = p ∙ sym q
leads_agree (Bar o) b r s p q = p ∙ sym q
leads_agree (Free o) b r s p q = p ∙ sym q
leads_agree (Place v x) b r s p q = p ∙ sym q
leads_agree (Begin o) b r s p q = begins_agree (hindered o b) o b r s p q
leads_agree (Done o) b r s p q = p ∙ sym q
leads_agree (Abandon o) b r s p q = p ∙ sym q
leads_agree (Trial o c barred) b r s p q = p ∙ sym q
leads_agree Wear b r s p q = p ∙ sym q

after_agree : (call : Call) (b c d : Bench) → After call b c → After call b d → c ≡ d
after_agree call b c d p q = p.2 ∙ ap (kept b) (leads_agree call b p.0 q.0 p.1 q.1) ∙ sym q.2

pub replays_agree : (calls : List Call) (b c d : Bench) → Replayed b calls c → Replayed b calls d → c ≡ d
replays_agree [] b c d p q = sym p ∙ q
replays_agree (call ∷ calls) b c d p q =
    replays_agree calls p.0 c d p.2 (subst (λ e. Replayed e calls d) (sym (after_agree call b p.0 q.0 p.1 q.1)) q.2)
