use Rattle.std.proofs.Common.{◌≡◌, ◌+◌, ◌++◌, drop}
use Rattle.syntax_tree.specs.inner.OneLevel.{definitions_of}
use Rattle.syntax_tree.specs.Counts.{counts}
use Rattle.name_check.specs.Scope.{locals_from, Agree}
use Rattle.name_check.proofs.scope.locals.Given as goal

abbrev pub invariant-loop-definition : goal.invariant-loop-definition
invariant-loop-definition l = record {
  declared : Agree (l.names ++ locals_from l.number (definitions_of (drop l.definition-index l.definitions))) (locals_from l.first (definitions_of l.definitions));
  counted : l.number + counts (definitions_of (drop l.definition-index l.definitions)) ≡ l.first + counts (definitions_of l.definitions);
}
