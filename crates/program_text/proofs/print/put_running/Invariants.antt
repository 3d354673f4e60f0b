use Rattle.std.proofs.Common.{◌≡◌, ◌++◌}
use Rattle.std.specs.List.{filter, flat_map, range_with_len}
use Rattle.flat_core.specs.System.{runs}
use Rattle.program_text.specs.Text.{equation_line}
use Rattle.program_text.proofs.print.put_running.Given as goal

abbrev pub invariant-loop-number : goal.invariant-loop-number
invariant-loop-number l = l.out ≡ l.initial.out ++ flat_map (equation_line l.flat) (filter (runs l.flat) (range_with_len 0 l.number))
