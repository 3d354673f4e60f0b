use Rattle.std.proofs.Common.{◌++◌, map, drop}
use Rattle.syntax_tree.specs.inner.OneLevel.{item_of}
use Rattle.name_check.specs.Scope.{Agree, declared_from, top}
use Rattle.name_check.proofs.top.top_names.Given as goal

abbrev pub invariant-loop-number : goal.invariant-loop-number
invariant-loop-number l = Agree (l.names ++ declared_from l.number (map item_of (drop l.number l.items))) (top (map item_of l.items))
