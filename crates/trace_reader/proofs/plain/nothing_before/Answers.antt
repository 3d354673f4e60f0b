use Rattle.std.proofs.Common.{sym, subst}
use Rattle.tsl_value.specs.declared.scalar.Scalar.TheVariants as scalar
use Rattle.trace_reader.specs.inner.Plain.{BeginsWithTail}
use Rattle.trace_reader.proofs.PlainLemmas.{no_tail}
use Rattle.trace_reader.proofs.plain.nothing_before.Goals as goal

pub returns-in-Unit : goal.returns-in-Unit
returns-in-Unit c = subst (λ t. BeginsWithTail t c.args.bytes.now scalar.Unit c.args.bytes.now) (sym c.in-Unit.is) (no_tail c.args.bytes.now)
