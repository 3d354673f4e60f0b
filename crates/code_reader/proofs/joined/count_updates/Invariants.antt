use Rattle.std.proofs.Common.{◌≡◌, ◌≤◌, length}
use Rattle.std.specs.List.{filter, range_with_len}
use Rattle.flat_core.specs.Updates.{is_running_update}
use Rattle.code_reader.specs.Parts.{code_in}
use Rattle.code_reader.proofs.joined.count_updates.Given as goal

abbrev pub invariant-loop-number : goal.invariant-loop-number
invariant-loop-number l = (l.count ≤ l.number) × (l.count ≡ length (filter (is_running_update (code_in l.parts).system) (range_with_len 0 l.number)))
