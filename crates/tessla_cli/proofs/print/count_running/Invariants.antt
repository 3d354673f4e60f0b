use Rattle.std.proofs.Common.{◌≡◌, ◌≤◌}
use Rattle.flat_core.specs.System.{runs}
use Rattle.tessla_cli.proofs.Counting.{counted}
use Rattle.tessla_cli.proofs.print.count_running.Given as goal

abbrev pub invariant-loop-number : goal.invariant-loop-number
invariant-loop-number l = (l.count ≡ counted (runs l.flat) l.number) × (l.count ≤ l.number)
