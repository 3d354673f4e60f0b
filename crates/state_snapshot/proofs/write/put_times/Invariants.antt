use Rattle.std.proofs.Common.{◌≡◌, ◌++◌, take}
use Rattle.std.specs.List.{flat_map}
use Rattle.run_state.specs.Spelling.{optional}
use Rattle.state_snapshot.proofs.write.put_times.Given as goal

abbrev pub invariant-loop-time : goal.invariant-loop-time
invariant-loop-time l = l.out ≡ l.initial.out ++ flat_map optional (take l.time-index l.times)
