-- Each fact replaces a digit, and writes the value into the state.
use Rattle.std.proofs.Common.{sym, ap, ◌∙◌, arith}
use Rattle.sas.specs.Ranks as Ranks
use Rattle.sas.specs.States.{outcome}
use Rattle.sas.proofs.Outcomes.{outcome_all}
use Rattle.sas.proofs.Unranks.{unrank, unrank_rank, rank_of_unrank}
use Rattle.projections.specs.Parts.{axis_sizes}
use Rattle.projections.proofs.Digits.{axes_positive, changed_low, changed_state, length_sizes, taken_fits}
use Rattle.projections.proofs.axes.Axes.written.Goals as goal

pub overflow_sub-now_at : goal.overflow_sub-now_at
overflow_sub-now_at c =
    let i = c.loop-f.f-index in
    let w = c.requires.valued i (record { variable = 0; value = 0 }) c.loop-f-test.true in
    let axes = c.args.self.now.list.items in
    taken_fits axes c.args.self.now.scaled c.args.facts.now i c.loop-f-test.true c.from-variable.result c.index.result.now c.from-variable.ensures (omega (arith, w.0, length_sizes axes)) c.index.ensures c.loop-f.now_at c.value_of.result 0 c.loop-f.invariant.low w.1 c.value_of.ensures

pub loop-f-preserved : goal.loop-f-preserved
loop-f-preserved c =
    let i = c.loop-f.f-index in
    let w = c.requires.valued i (record { variable = 0; value = 0 }) c.loop-f-test.true in
    let axes = c.args.self.now.list.items in
    record {
      low = changed_low axes c.args.self.now.scaled c.args.facts.now i c.loop-f-test.true c.from-variable.result c.index.result.now c.from-variable.ensures (omega (arith, w.0, length_sizes axes)) c.index.ensures c.loop-f.now_at c.value_of.result c.from.result c.loop-f.invariant.low w.1 c.value_of.ensures c.from.ensures;
      written = changed_state axes c.args.self.now.scaled c.args.facts.now i c.loop-f-test.true c.from-variable.result c.index.result.now c.from-variable.ensures (omega (arith, w.0, length_sizes axes)) c.index.ensures c.loop-f.now_at c.value_of.result c.from.result c.loop-f.invariant.low w.1 c.value_of.ensures c.from.ensures ∙ c.loop-f.invariant.written;
    }

pub returns-clause-value : goal.returns-clause-value
returns-clause-value c s hs e =
    let sizes = axis_sizes c.args.self.now.list.items in
    let facts = c.args.facts.now in
    let end = sym (outcome_all facts (unrank sizes c.loop-f.now_at) c.loop-f.f-index c.loop-f-test.false) ∙ c.loop-f.invariant.written in
    sym (rank_of_unrank sizes (axes_positive c.args.self.now.list.items) c.loop-f.now_at c.loop-f.invariant.low) ∙ ap (Ranks.rank sizes) (end ∙ ap (outcome facts) (ap (unrank sizes) (sym e) ∙ unrank_rank sizes s hs))
