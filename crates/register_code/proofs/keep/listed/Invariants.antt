use Rattle.std.proofs.Common.{◌≡◌}
use Rattle.std.specs.List.{filter, range_with_len}
use Rattle.flat_core.specs.Members.{is_in}
use Rattle.register_code.proofs.keep.listed.Given as goal

abbrev pub invariant-loop-number : goal.invariant-loop-number
invariant-loop-number l = l.ids.items ≡ filter (is_in l.set) (range_with_len 0 l.number)
