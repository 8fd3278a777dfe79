-- Each number is looked for among those before it.
use Rattle.std.proofs.Common.{sym, ◌∙◌, rules}
use Rattle.drafts.proofs.Patterned.{distinct_more, distinct_stop, distinct_none}
use Rattle.drafts.proofs.patterns.distinct.Goals as goal

pub returns-then-contains : goal.returns-then-contains
returns-then-contains c = sym (c.loop-i.invariant ∙ distinct_stop _ _ _ c.loop-i-test.true c.if-contains.ensures.value)

pub loop-i-preserved : goal.loop-i-preserved
loop-i-preserved c = c.loop-i.invariant ∙ distinct_more _ _ _ c.loop-i-test.true c.if-contains.ensures.value

pub returns : goal.returns
returns c = search (rules, distinct_none)
