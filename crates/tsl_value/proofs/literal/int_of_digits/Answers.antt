use Rattle.std.proofs.Common.{Err}
use Rattle.tsl_value.proofs.Digits.{parsed, IsUtf8-number}
use Rattle.tsl_value.proofs.literal.int_of_digits.Goals as goal

pub returns-in-Err-parse : goal.returns-in-Err-parse
returns-in-Err-parse c = parsed c.args.bytes.now c.in-Ok.digits.now (Err c.in-Err-parse.field-0) c.in-Ok.ensures.cases.0 c.requires c.in-Err-parse.ensures.value.0

pub returns-in-Err : goal.returns-in-Err
returns-in-Err c = absurd (c.in-Err.ensures.cases.0 (IsUtf8-number c.args.bytes.now c.requires))
