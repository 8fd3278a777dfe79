-- The sizes are multiplied, up to the limit.
use Rattle.std.proofs.Common.{◌≡◌, ℕ, ◌*◌, min, leb, ap, ◌∙◌, one-mul, rules}
use Rattle.std.specs.List.{fold}
use Rattle.std.proofs.iter.runs.Made.{chains}
use Rattle.drafts.specs.declared.parts.Variable.{Variable}
use Rattle.drafts.proofs.Counted.{states_fold}
use Rattle.drafts.proofs.whole.few_states.Goals as goal

pub returns : goal.returns
returns c =
    let folded : c.fold-states.result ≡ fold (λ (n : ℕ) (v : Variable). min (n * v.size) 4294967295) 1 c.args.variables.now = search (rules, chains) in
    ap (λ n. leb n 1048576) folded ∙ states_fold 1 c.args.variables.now ∙ ap (λ n. leb n 1048576) (one-mul _)
