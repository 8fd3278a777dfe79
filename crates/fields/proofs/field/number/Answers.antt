-- A number is read digit by digit, and given up as soon as it is past the limit.
use Rattle.std.proofs.Common.{◌+◌, ◌*◌, ◌<◌, drop, sym, ap, ◌∙◌, arith}
use Rattle.std.proofs.lemmas.Bool.{cond-true, le-leb}
use Rattle.fields.specs.Text.{digits_on}
use Rattle.fields.specs.Within.{within}
use Rattle.fields.proofs.Numerals.{numeral_digits, digits_more, digits_stop, digits_none, too_large}
use Rattle.fields.proofs.field.number.Goals as goal

pub loop-b-init : goal.loop-b-init
loop-b-init c = (omega arith, numeral_digits c.args.text.now c.if-not-is_numeral.ensures)

pub returns-in_err-digit : goal.returns-in_err-digit
returns-in_err-digit c =
    c.from_residual.ensures ∙ sym (ap (within c.args.limit) (c.loop-b.invariant.1 ∙ digits_stop _ _ _ c.loop-b-test.true c.in_err-digit.ensures))

pub returns-then-n-from : goal.returns-then-n-from
returns-then-n-from c =
    let over : c.args.limit < 10 * c.loop-b.n + c.in_ok-digit.field-0 = omega arith in
    sym (ap (within c.args.limit) (c.loop-b.invariant.1 ∙ digits_more _ _ _ _ c.loop-b-test.true c.in_ok-digit.ensures) ∙ too_large _ _ (drop (c.loop-b.b-index + 1) c.args.text.now) over)

pub loop-b-preserved : goal.loop-b-preserved
loop-b-preserved c =
    (omega arith, c.loop-b.invariant.1 ∙ digits_more _ _ _ _ c.loop-b-test.true c.in_ok-digit.ensures ∙ ap (λ k. digits_on (10 * c.loop-b.n + k) (drop (c.loop-b.b-index + 1) c.args.text.now)) (sym c.from.ensures))

pub returns : goal.returns
returns c = sym (ap (within c.args.limit) (c.loop-b.invariant.1 ∙ digits_none _ _ _ c.loop-b-test.false) ∙ cond-true _ _ _ (le-leb _ _ c.loop-b.invariant.0))
