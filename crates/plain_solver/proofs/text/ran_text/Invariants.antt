use Rattle.std.proofs.Common.{◌≡◌, ◌++◌, drop}
use Rattle.std.specs.List.{flat_map}
use Rattle.plain_solver.specs.inner.Streams.{streams_of}
use Rattle.flat_core.specs.Text.{text_at}
use Rattle.plain_solver.proofs.text.ran_text.Given as goal

abbrev pub invariant-loop-time : goal.invariant-loop-time
invariant-loop-time l = l.out ++ flat_map (text_at l.flat (streams_of l.streams)) (drop l.time-index l.instants) ≡ flat_map (text_at l.flat (streams_of l.streams)) l.instants
