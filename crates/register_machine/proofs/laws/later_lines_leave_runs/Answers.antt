use Rattle.register_machine.proofs.LaterRuns.{later_leave}
use Rattle.register_machine.proofs.laws.later_lines_leave_runs.Goals as goal

pub returns : goal.returns
returns c = later_leave
