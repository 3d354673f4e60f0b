use Rattle.std.proofs.Common.{◌≡◌, ◌++◌}
use Rattle.std.specs.List.{filter, flat_map, range_with_len}
use Rattle.flat_core.specs.Updates.{is_running_update}
use Rattle.choice_text.specs.Text.{update_line}
use Rattle.choice_text.proofs.print.put_updates.Given as goal

abbrev pub invariant-loop-number : goal.invariant-loop-number
invariant-loop-number l =
    l.out ≡ l.initial.out ++ flat_map (update_line l.flat l.reasons) (filter (is_running_update l.flat) (range_with_len 0 l.number))
