use Rattle.std.proofs.Common.{◌≡◌, ◌≤◌}
use Rattle.flat_core.specs.Updates.{is_running_update}
use Rattle.tessla_cli.proofs.Counting.{counted}
use Rattle.tessla_cli.proofs.print.count_updates.Given as goal

abbrev pub invariant-loop-number : goal.invariant-loop-number
invariant-loop-number l = (l.count ≡ counted (is_running_update l.flat) l.number) × (l.count ≤ l.number)
