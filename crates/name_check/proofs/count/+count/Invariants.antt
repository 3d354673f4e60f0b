use Rattle.std.proofs.Common.{◌≡◌, ◌+◌, ◌*◌, drop}
use Rattle.syntax_tree.specs.inner.OneLevel.{body_of, definitions_of, size_of_body, size_of_definitions}
use Rattle.name_check.specs.Scope.{counts}
use Rattle.name_check.proofs.count.+count.Given as goal

abbrev pub decreases-count_in : goal.decreases-count_in
decreases-count_in l = 4 * size_of_body (body_of l.body.now) + 1

abbrev pub decreases-counts : goal.decreases-counts
decreases-counts l = 4 * size_of_definitions (definitions_of l.definitions.now) + 2

abbrev pub decreases-number_after : goal.decreases-number_after
decreases-number_after l = 4 * size_of_body (body_of l.body.now) + 2

abbrev pub invariant-counts-loop-definition : goal.invariant-counts-loop-definition
invariant-counts-loop-definition l = l.count + counts (definitions_of (drop l.definition-index l.definitions)) ≡ counts (definitions_of l.definitions)
