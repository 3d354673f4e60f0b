use Rattle.tsl_value.proofs.Printed.{reads_printed}
use Rattle.tsl_value.proofs.laws.printed_values_are_read.Goals as goal

pub returns : goal.returns
returns c = reads_printed
