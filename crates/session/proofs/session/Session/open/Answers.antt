-- What has a rank is a state.
use Rattle.std.proofs.Common.{◌≡◌, ℕ, true, List, is_ok, Ok, Err, Result, MatchResult, vec_items, sym, ap, ◌∙◌, subst, rules}
use Rattle.std.proofs.lemmas.Bool.{false≢true}
use Rattle.sas.specs.Model.{Model}
use Rattle.sas.specs.States.{State}
use Rattle.states.specs.Ranked.{RankOf}
use Rattle.states.specs.declared.ranks.StateRefusal.{StateRefusal}
use Rattle.tasks.specs.View.{model_of}
use Rattle.session.proofs.session.Session.open.Goals as goal

ranked_state : (Q : StateRefusal → Type 0) (m : Model) (s : List ℕ) (r : Result ℕ StateRefusal) → MatchResult r (RankOf m s) Q → is_ok r ≡ true → State m.sizes s
ranked_state Q m s (Ok k) h e = h.state
ranked_state Q m s (Err d) h e = absurd (false≢true e)

pub invariant_of-result-clause-sound : goal.invariant_of-result-clause-sound
invariant_of-result-clause-sound c =
    let m = model_of c.args.task.now in
    let values = c.args.values.now in
    let state : vec_items c.in_ok-state.state ≡ values = search rules in
    let sound = ranked_state _ m values c.rank.result c.rank.ensures (sym c.map_err.ensures.variant ∙ ap is_ok c.in_ok-map_err.was) in
    subst (λ (n : Model). State n.sizes (vec_items c.in_ok-state.state)) (sym c.in_ok-task.ensures) (subst (State m.sizes) (sym state) sound)
