use Rattle.std.proofs.Common.{rules, arith}
use Rattle.syntax_tree.specs.inner.OneLevel.{definition_of}
use Rattle.syntax_tree.proofs.Sizes.{definition_smaller}
use Rattle.name_check.proofs.CountLemmas.{next_counted}
use Rattle.name_check.proofs.count.+count.Goals as goal

pub counts-number_after-count-requires : goal.counts-number_after-count-requires
counts-number_after-count-requires t c =
    let smaller = definition_smaller c.args.definitions.now c.loop-definition.definition-index c.definition-item.result (definition_of c.parts.result.now) c.loop-definition-test.true c.definition-item.is c.parts.ensures.is in
    let next = next_counted c.args.definitions.now c.loop-definition.definition-index c.definition-item.result (definition_of c.parts.result.now) c.loop-definition-test.true c.definition-item.is c.parts.ensures.is in
    (search rules, omega (arith, next, c.loop-definition.invariant, c.requires))

pub counts-loop-definition-preserved : goal.counts-loop-definition-preserved
counts-loop-definition-preserved t c =
    let next = next_counted c.args.definitions.now c.loop-definition.definition-index c.definition-item.result (definition_of c.parts.result.now) c.loop-definition-test.true c.definition-item.is c.parts.ensures.is in
    omega (arith, next, c.loop-definition.invariant, c.number_after-count.ensures)
