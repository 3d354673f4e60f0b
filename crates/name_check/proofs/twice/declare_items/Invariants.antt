use Rattle.std.proofs.Common.{◌≡◌, ◌++◌, map, drop}
use Rattle.syntax_tree.specs.inner.OneLevel.{item_of}
use Rattle.name_check.specs.Scope.{top, declared_from}
use Rattle.name_check.specs.Faults.{first, twice_from, declared_twice}
use Rattle.name_check.specs.inner.Steps.{names_of}
use Rattle.name_check.proofs.twice.declare_items.Given as goal

abbrev pub invariant-loop-number : goal.invariant-loop-number
invariant-loop-number l = record {
  once : first (twice_from (names_of l.names) (map item_of (drop l.number l.items))) ≡ first (declared_twice (map item_of l.items));
  declared : l.names ++ declared_from l.number (map item_of (drop l.number l.items)) ≡ top (map item_of l.items);
}
