use Rattle.std.proofs.Common.{◌≡◌, ◌++◌, take}
use Rattle.std.specs.List.{flat_map}
use Rattle.run_state.specs.Spelling.{scalar_bytes}
use Rattle.state_snapshot.proofs.write.put_scalars.Given as goal

abbrev pub invariant-loop-value : goal.invariant-loop-value
invariant-loop-value l = l.out ≡ l.initial.out ++ flat_map scalar_bytes (take l.value-index l.values)
