use Rattle.std.proofs.Common.{◌≡◌}
use Rattle.std.specs.List.{filter, range_with_len}
use Rattle.flat_core.specs.Kept.{is_timer}
use Rattle.register_code.proofs.keep.timers.Given as goal

abbrev pub invariant-loop-number : goal.invariant-loop-number
invariant-loop-number l = l.ids.items ≡ filter (is_timer l.flat) (range_with_len 0 l.number)
