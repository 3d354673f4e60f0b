use Rattle.std.proofs.Common.{arith, take, length, ◌-◌, ◌∙◌, ap, refl, sym}
use Rattle.std.proofs.lemmas.List.{length-take}
use Rattle.trace_reader.proofs.PlainLemmas.{digit_is, few_read, number_after, one_read}
use Rattle.trace_reader.proofs.plain.number_before.Goals as goal

pub loop-digit-preserved : goal.loop-digit-preserved
loop-digit-preserved c =
    let passes = sym c.is_ascii_digit.ensures.value ∙ c.if-not-is_ascii_digit.false in
    one_read (take c.min.result c.args.bytes.now) c.loop-digit.number c.loop-digit.rest.now c.in-Some.digit.now (c.from.result - 48) c.in-Some.others.now c.loop-digit.invariant c.in-Some.ensures.cases.0 passes (ap (λ n. n - 48) c.from.ensures)

pub overflow_mul-number : goal.overflow_mul-number
overflow_mul-number c =
    let size = length-take c.min.result c.args.bytes.now in
    let low = c.min.ensures in
    let more = ap length c.in-Some.ensures.cases.0 in
    let small = few_read 17 (take c.min.result c.args.bytes.now) c.loop-digit.number c.loop-digit.rest.now c.loop-digit.invariant (omega arith) in
    omega (arith, small)

pub overflow_add-number : goal.overflow_add-number
overflow_add-number c =
    let passes = sym c.is_ascii_digit.ensures.value ∙ c.if-not-is_ascii_digit.false in
    let high = (digit_is c.in-Some.digit.now passes).1 in
    let value = c.from.ensures in
    let size = length-take c.min.result c.args.bytes.now in
    let low = c.min.ensures in
    let more = ap length c.in-Some.ensures.cases.0 in
    let small = few_read 17 (take c.min.result c.args.bytes.now) c.loop-digit.number c.loop-digit.rest.now c.loop-digit.invariant (omega arith) in
    omega (arith, small)

pub returns-clause-bounded : goal.returns-clause-bounded
returns-clause-bounded c =
    let size = length-take c.min.result c.args.bytes.now in
    let low = c.min.ensures in
    let small = few_read 18 (take c.min.result c.args.bytes.now) c.loop-digit.number c.loop-digit.rest.now c.loop-digit.invariant (omega arith) in
    omega (arith, small)

pub returns-clause-number : goal.returns-clause-number
returns-clause-number c = number_after c.min.result _ c.args.bytes.now c.loop-digit.number c.loop-digit.rest.now c.loop-digit.invariant refl (λ none. c.if-count-eq0.false none)
