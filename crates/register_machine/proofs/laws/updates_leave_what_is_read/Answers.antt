use Rattle.register_machine.proofs.Shown.{leaves}
use Rattle.register_machine.proofs.laws.updates_leave_what_is_read.Goals as goal

pub returns : goal.returns
returns c = leaves
