use Rattle.std.proofs.Common.{◌≡◌, ◌<◌, ◌++◌, ℕ}
use Rattle.std.specs.List.{flat_map, range_with_len}
use Rattle.code_file.specs.Spelling.{entry_at}
use Rattle.code_file.specs.inner.Writing.{IsFormAt}
use Rattle.code_file.proofs.equations.put_entries.Given as goal

abbrev pub invariant-loop-number : goal.invariant-loop-number
invariant-loop-number l =
    (l.out ≡ l.initial.out ++ flat_map (entry_at l.flat) (range_with_len 0 l.number))
    × ((i : ℕ) → i < l.number → IsFormAt l.flat i)
