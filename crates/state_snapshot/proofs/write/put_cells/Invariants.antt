use Rattle.std.proofs.Common.{◌≡◌, ◌++◌, take}
use Rattle.std.specs.List.{flat_map}
use Rattle.run_state.specs.Spelling.{content_bytes}
use Rattle.state_snapshot.proofs.write.put_cells.Given as goal

abbrev pub invariant-loop-content : goal.invariant-loop-content
invariant-loop-content l = l.out ≡ l.initial.out ++ flat_map content_bytes (take l.content-index l.cells)
