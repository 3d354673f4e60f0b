use Rattle.std.proofs.Common.{◌≡◌, ◌++◌, map, take}
use Rattle.syntax_tree.specs.inner.OneLevel.{item_of}
use Rattle.spec_printer.specs.inner.Print.{source_of}
use Rattle.spec_printer.proofs.print.put_items.Given as goal

abbrev pub invariant-loop-item : goal.invariant-loop-item
invariant-loop-item l = l.out ≡ l.initial.out ++ source_of (map item_of (take l.item-index l.items))
