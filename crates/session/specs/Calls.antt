-- Calls: what each leads to, and where a list of them ends.
use Rattle.std.specs.Prelude.{◌≡◌, true, false, List, [], ◌∷◌, Ok, Result}
use Rattle.session.specs.Bench.{Bench}
use Rattle.session.specs.Changes.{kept, costed, barred_by, placed, finished, left}
use Rattle.session.specs.Begins.{Begins}
use Rattle.session.specs.Trials.{tried}
use Rattle.session.specs.declared.session.calls.Call.{Call}
use Rattle.session.specs.declared.session.calls.Call.TheVariants.{SetCost, Bar, Free, Place, Begin, Done, Abandon, Trial, Wear}
use Rattle.session.specs.declared.session.refusal.Refusal.{Refusal}

-- r is what the call leads to; there is no other such r. A ticket counts as its operator, a trial ends at once
abbrev pub Leads : Call → Bench → Result Bench Refusal → Type 0
Leads (SetCost o c) b r = r ≡ costed o c b
Leads (Bar o) b r = r ≡ barred_by true o b
Leads (Free o) b r = r ≡ barred_by false o b
Leads (Place v x) b r = r ≡ placed v x b
Leads (Begin o) b r = Begins o b r
Leads (Done o) b r = r ≡ finished o b
Leads (Abandon o) b r = r ≡ left o b
Leads (Trial o c barred) b r = r ≡ tried o c b
Leads Wear b r = r ≡ Ok b

-- the call makes c of b: a function of the call and b, since what a call leads to is one
abbrev pub After : Call → Bench → Bench → Type 0
After call b c = (r : Result Bench Refusal) × Leads call b r × (c ≡ kept b r)

-- the calls, one after the other, make c of b: again a function
abbrev pub Replayed : Bench → List Call → Bench → Type 0
Replayed b [] c = b ≡ c
Replayed b (call ∷ calls) c = (d : Bench) × After call b d × Replayed d calls c
