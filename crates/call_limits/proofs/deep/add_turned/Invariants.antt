use Rattle.std.proofs.Common.{◌≡◌, ◌++◌, take}
use Rattle.call_limits.specs.inner.Edges.{turned}
use Rattle.call_limits.proofs.deep.add_turned.Given as goal

abbrev pub invariant-loop-caller : goal.invariant-loop-caller
invariant-loop-caller l = l.pairs ≡ l.initial.pairs ++ turned (take l.caller-index l.calls)
