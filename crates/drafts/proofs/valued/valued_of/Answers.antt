-- A variable's number, and a value below its size.
use Rattle.std.proofs.Common.{◌≡◌, get_or, map, rules, arith, ◌∙◌}
use lib.ListN.{length-map}
use Rattle.cards.specs.Content.{sizes}
use Rattle.drafts.specs.View.{plain_var}
use Rattle.drafts.proofs.Lists.{size_at}
use Rattle.drafts.proofs.valued.valued_of.Goals as goal

pub returns-in_err-v : goal.returns-in_err-v
returns-in_err-v c = search (rules, length-map, c.as_slice-variables.ensures.value)

pub returns-in_err-x : goal.returns-in_err-x
returns-in_err-x c =
    let vs = c.as_slice-variables.result.now in
    let size : c.from.result ≡ get_or (sizes (map plain_var vs)) c.in_ok-v.v 0 = c.from.ensures ∙ size_at vs c.in_ok-v.v _ (omega (arith, c.in_ok-v.ensures.bounded)) in
    rw (← c.as_slice-variables.ensures.value) (search (rules, length-map, size))

pub returns : goal.returns
returns c =
    let vs = c.as_slice-variables.result.now in
    let size : c.from.result ≡ get_or (sizes (map plain_var vs)) c.in_ok-v.v 0 = c.from.ensures ∙ size_at vs c.in_ok-v.v _ (omega (arith, c.in_ok-v.ensures.bounded)) in
    rw (← c.as_slice-variables.ensures.value) (search (rules, length-map, size))
