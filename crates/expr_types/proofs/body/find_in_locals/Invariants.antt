use Rattle.std.proofs.Common.{◌≡◌, drop}
use Rattle.syntax_tree.specs.inner.OneLevel.{definitions_of}
use Rattle.expr_types.specs.Bodies.{local_wrongs}
use Rattle.expr_types.specs.inner.Shown.{around_of}
use Rattle.expr_types.specs.inner.Answers.{first}
use Rattle.expr_types.proofs.body.find_in_locals.Given as goal

abbrev pub invariant-loop-definition : goal.invariant-loop-definition
invariant-loop-definition l = first (local_wrongs (around_of l.at) (definitions_of (drop l.definition-index l.definitions))) ≡ first (local_wrongs (around_of l.at) (definitions_of l.definitions))
