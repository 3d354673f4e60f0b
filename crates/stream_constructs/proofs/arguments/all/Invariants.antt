use Rattle.std.proofs.Common.{◌≡◌, ◌++◌, drop}
use Rattle.stream_constructs.specs.Equations.{numbers}
use Rattle.stream_constructs.proofs.arguments.all.Given as goal

abbrev pub invariant-loop-stream : goal.invariant-loop-stream
invariant-loop-stream l = l.args ++ numbers (drop l.stream-index l.streams) ≡ numbers l.streams
