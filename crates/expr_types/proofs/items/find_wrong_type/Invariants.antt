use Rattle.std.proofs.Common.{◌≡◌, map, drop}
use Rattle.syntax_tree.specs.inner.OneLevel.{item_of}
use Rattle.expr_types.specs.Bodies.{wrongs_from, all_wrongs}
use Rattle.expr_types.specs.inner.Shown.{kinds_of}
use Rattle.expr_types.specs.inner.Answers.{first}
use Rattle.expr_types.proofs.items.find_wrong_type.Given as goal

abbrev pub invariant-loop-number : goal.invariant-loop-number
invariant-loop-number l = first (wrongs_from (map item_of l.items) (kinds_of l.kinds) l.number (map item_of (drop l.number l.items))) ≡ first (all_wrongs (map item_of l.items) (kinds_of l.kinds))
