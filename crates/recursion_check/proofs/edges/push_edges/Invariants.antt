use Rattle.std.proofs.Common.{◌≡◌, ◌++◌, take}
use Rattle.recursion_check.specs.Feeds.{edges_to}
use Rattle.recursion_check.proofs.edges.push_edges.Given as goal

abbrev pub invariant-loop-argument : goal.invariant-loop-argument
invariant-loop-argument l = l.edges ≡ l.initial.edges ++ edges_to l.equation (take l.argument-index l.arguments)
