use Rattle.std.proofs.Common.{rules, sym, ap, ◌∙◌, arith}
use Rattle.syntax_tree.specs.Tree as tree
use Rattle.syntax_tree.specs.inner.OneLevel.{params_in, body_of, definition_of}
use Rattle.name_check.specs.Scope.{seen}
use Rattle.syntax_tree.proofs.Sizes.{definition_smaller}
use Rattle.name_check.proofs.CountLemmas.{next_counted}
use Rattle.std.proofs.lemmas.Result.{on_ok_weaker}
use Rattle.definition_cycles.specs.Nodes.{definition_nodes}
use Rattle.definition_cycles.specs.inner.Walk.{with_nodes}
use Rattle.definition_cycles.proofs.FoundLemmas.{block_turn, block_end, block_learned}
use Rattle.definition_cycles.proofs.found.Found.+found.Goals as goal

pub add_block-add_definition-requires : goal.add_block-add_definition-requires
add_block-add_definition-requires t c =
    let smaller = definition_smaller c.args.definitions.now c.loop-definition.definition-index c.definition-item.result (definition_of c.parts-parts.result.now) c.loop-definition-test.true c.definition-item.is c.parts-parts.ensures.is in
    let next = next_counted c.args.definitions.now c.loop-definition.definition-index c.definition-item.result (definition_of c.parts-parts.result.now) c.loop-definition-test.true c.definition-item.is c.parts-parts.ensures.is in
    (search rules, omega (arith, next, c.loop-definition.invariant.counted, c.requires))

pub add_block-number_after-after-requires : goal.add_block-number_after-after-requires
add_block-number_after-after-requires t c =
    let next = next_counted c.args.definitions.now c.loop-definition.definition-index c.definition-item.result (definition_of c.parts-parts.result.now) c.loop-definition-test.true c.definition-item.is c.parts-parts.ensures.is in
    omega (arith, next, c.loop-definition.invariant.counted, c.requires)

pub add_block-loop-definition-preserved : goal.add_block-loop-definition-preserved
add_block-loop-definition-preserved t c =
    let next = next_counted c.args.definitions.now c.loop-definition.definition-index c.definition-item.result (definition_of c.parts-parts.result.now) c.loop-definition-test.true c.definition-item.is c.parts-parts.ensures.is in record {
      added = block_turn c.args.definitions.now c.loop-definition.definition-index c.definition-item.result (definition_of c.parts-parts.result.now) c.args.item c.loop-definition.number c.number_after-after.result (seen c.args.scope.now) c.loop-definition.self c.add_definition.new.self _ c.loop-definition-test.true c.definition-item.is c.parts-parts.ensures.is
          c.number_after-after.ensures
          c.loop-definition.invariant.added
          c.in_ok-add_definition.ensures;
      counted = omega (arith, next, c.loop-definition.invariant.counted, c.number_after-after.ensures);
    }

pub add_block-returns : goal.add_block-returns
add_block-returns t c =
    block_end c.args.definitions.now c.loop-definition.definition-index c.args.item c.loop-definition.number (seen c.args.scope.now) c.loop-definition.self _ c.loop-definition-test.false c.loop-definition.invariant.added

pub add_definition-returns-in_ok-add_node-in-Block : goal.add_definition-returns-in_ok-add_node-in-Block
add_definition-returns-in_ok-add_node-in-Block t c =
    let parts = c.args.parts.now in
    on_ok_weaker c.add_block.result
    (λ h.
    block_learned c.args.item c.args.number c.in_ok-locals-in-Block.field-0 c.inner-inner.result c.args.scope.now parts.place parts.name (params_in parts.params.items) parts.written c.is_some.result c.deref.result.now c.deref-in-Block.result.now c.in-Block.definitions.items c.in-Block.last c.args.self.now c.add_node-in-Block.new.self c.add_block.new.self
    c.inner-inner.ensures c.is_some.ensures c.deref.ensures.value c.deref-in-Block.ensures.value c.in_ok-locals-in-Block.ensures c.in_ok-add_node-in-Block.ensures h
    ∙ ap (λ b. with_nodes c.args.self.now (definition_nodes c.args.item c.args.number (seen c.args.scope.now) (tree.Define parts.place parts.name (params_in parts.params.items) parts.written (body_of b)))) (sym c.in-Block.is))
    c.add_block.ensures
