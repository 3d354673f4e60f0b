use Rattle.std.proofs.Common.{◌+◌, ◌∙◌, ap, sym, subst, arith, take_all, lit≤, ◌<◌, ◌^◌, ℕ}
use Rattle.std.proofs.lemmas.Int.Digits.{digits_value_more}
use Rattle.std.proofs.lemmas.Str.Parse.{digits_value-take-le}
use Rattle.std.specs.Str.Parse.{digits_value}
use Rattle.trace_reader.proofs.form.number_of.Goals as goal

pub returns : goal.returns
returns c =
    let it = c.loop-digit.invariant in
    let same = it.0 ∙ ap (digits_value 10) (take_all c.loop-digit.digit-index c.args.digits.now c.loop-digit-test.false) in
    (subst (λ (n : ℕ). n < 2 ^ 64) same it.1, same)

pub returns-in_err-number : goal.returns-in_err-number
returns-in_err-number c =
    let ds = c.args.digits.now in
    let at = c.loop-digit.digit-index in
    let number = c.loop-digit.invariant.0 in
    let more = digits_value_more 10 ds at c.loop-digit-test.true in
    let most = digits_value-take-le 10 ds (at + 1) (lit≤ tt) in
    rw c.from_residual.ensures (λ small. c.in_err-number.ensures (omega arith))

pub loop-digit-preserved : goal.loop-digit-preserved
loop-digit-preserved c =
    let it = c.in_ok-number.ensures in
    let is = it.1 in
    let number = c.loop-digit.invariant.0 in
    let more = digits_value_more 10 c.args.digits.now c.loop-digit.digit-index c.loop-digit-test.true in
    (omega arith, subst (λ (n : ℕ). n < 2 ^ 64) (sym is) it.0)
