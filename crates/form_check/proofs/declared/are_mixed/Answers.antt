use Rattle.form_check.proofs.AnyLemmas.{mixed_if, not_mixed}
use Rattle.form_check.proofs.declared.are_mixed.Goals as goal

pub returns-then-some_are_streams : goal.returns-then-some_are_streams
returns-then-some_are_streams c = mixed_if c.args.params.now c.some_are_streams.result c.some_are_values.result c.some_are_streams.ensures c.if-some_are_streams.true c.some_are_values.ensures

pub returns-else-some_are_streams : goal.returns-else-some_are_streams
returns-else-some_are_streams c = not_mixed c.args.params.now c.some_are_streams.result c.some_are_streams.ensures c.if-some_are_streams.false
