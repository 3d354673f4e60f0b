use Rattle.trace_reader.proofs.PlainLemmas.{int_read, int_value, minus_read}
use Rattle.trace_reader.proofs.plain.int_before.Goals as goal

pub returns-in_ok-number-in-Some : goal.returns-in_ok-number-in-Some
returns-in_ok-number-in-Some c =
    let read = c.in_ok-number-in-Some.ensures in
    rw (c.negative.ensures, c.in-Some.ensures) (int_value _ _ c.in_ok-number-in-Some.rest.now (minus_read c.in-Some.digits.now c.in_ok-number-in-Some.number c.in_ok-number-in-Some.rest.now read.number read.bounded))

pub returns-in_ok-number-in-None : goal.returns-in_ok-number-in-None
returns-in_ok-number-in-None c =
    let read = c.in_ok-number-in-None.ensures in
    rw c.positive.ensures (int_value c.args.bytes.now _ c.in_ok-number-in-None.rest.now (int_read c.args.bytes.now c.in_ok-number-in-None.number c.in_ok-number-in-None.rest.now read.number read.bounded))
