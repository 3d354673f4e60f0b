use Rattle.std.proofs.Common.{◌≡◌, ◌++◌, drop}
use Rattle.syntax_tree.specs.inner.OneLevel.{definitions_of}
use Rattle.expr_types.specs.inner.Blocks.{definitions_in, numbered}
use Rattle.expr_types.proofs.block.numbered.Given as goal

abbrev pub invariant-loop-definition : goal.invariant-loop-definition
invariant-loop-definition l = definitions_in l.all.items ++ numbered (definitions_of (drop l.definition-index l.definitions)) ≡ numbered (definitions_of l.definitions)
