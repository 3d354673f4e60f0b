use Rattle.std.proofs.Common.{◌≡◌, ◌++◌, take}
use Rattle.std.specs.List.{flat_map}
use Rattle.run_state.specs.Spelling.{number}
use Rattle.state_snapshot.proofs.write.put_numbers.Given as goal

abbrev pub invariant-loop-value : goal.invariant-loop-value
invariant-loop-value l = l.out ≡ l.initial.out ++ flat_map number (take l.value-index l.numbers)
