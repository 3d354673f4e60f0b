use Rattle.std.proofs.Common.{◌≡◌, ◌++◌, map, drop}
use Rattle.syntax_tree.specs.inner.OneLevel.{item_of}
use Rattle.name_check.specs.Scope.{top}
use Rattle.call_limits.specs.inner.Edges.{mentions_in_outputs}
use Rattle.call_limits.proofs.calls.output_mentions.Given as goal

abbrev pub invariant-loop-number : goal.invariant-loop-number
invariant-loop-number l = l.mentions.items ++ mentions_in_outputs l.number (top (map item_of l.items)) (map item_of (drop l.number l.items)) ≡ mentions_in_outputs 0 (top (map item_of l.items)) (map item_of l.items)
