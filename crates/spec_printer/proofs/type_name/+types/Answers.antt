use Rattle.spec_printer.proofs.Anywhere.{marks_of_shape}
use Rattle.spec_printer.proofs.type_name.+types.Goals as goal

pub put_type-returns-clause-ok : goal.put_type-returns-clause-ok
put_type-returns-clause-ok t c = rw (marks_of_shape c.args.of.now c.shape.result.now c.shape.ensures) c.put_shape.ensures.ok
