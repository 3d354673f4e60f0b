use Rattle.std.proofs.Common.{◌≡◌, map, drop}
use Rattle.syntax_tree.specs.inner.OneLevel.{item_of}
use Rattle.expr_types.specs.Bodies.{aggregate_results_from}
use Rattle.expr_types.specs.inner.Shown.{kinds_of}
use Rattle.expr_types.specs.inner.Answers.{first}
use Rattle.expr_types.proofs.items.find_aggregate_result.Given as goal

abbrev pub invariant-loop-number : goal.invariant-loop-number
invariant-loop-number l = first (aggregate_results_from (kinds_of l.kinds) l.number (map item_of (drop l.number l.items))) ≡ first (aggregate_results_from (kinds_of l.kinds) 0 (map item_of l.items))
