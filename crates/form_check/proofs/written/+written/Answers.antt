use Rattle.std.proofs.Common.{rules}
use Rattle.syntax_tree.specs.inner.OneLevel.{definition_of}
use Rattle.syntax_tree.proofs.Sizes.{definition_smaller}
use Rattle.form_check.proofs.written.+written.Goals as goal

pub find_in_locals-find_in_local-requires : goal.find_in_locals-find_in_local-requires
find_in_locals-find_in_local-requires t c =
    let smaller = definition_smaller c.args.definitions.now c.loop-definition.definition-index c.definition-item.result (definition_of c.parts.result.now) c.loop-definition-test.true c.definition-item.is c.parts.ensures.is in
    search rules
