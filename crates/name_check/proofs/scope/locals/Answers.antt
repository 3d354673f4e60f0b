use Rattle.std.proofs.Common.{◌+◌, suc, ap, ◌∙◌, arith}
use Rattle.syntax_tree.specs.inner.OneLevel.{definition_of}
use Rattle.syntax_tree.specs.Counts.{count_in}
use Rattle.name_check.specs.inner.Steps.{local_name, local_body}
use Rattle.name_check.proofs.AgreeLemmas.{locals_turn}
use Rattle.name_check.proofs.CountLemmas.{next_counted}
use Rattle.name_check.proofs.scope.locals.Goals as goal

pub number_after-number-requires : goal.number_after-number-requires
number_after-number-requires c =
    let next = next_counted c.args.definitions.now c.loop-definition.definition-index c.definition-item.result (definition_of c.parts-parts.result.now) c.loop-definition-test.true c.definition-item.is c.parts-parts.ensures.is in
    omega (arith, next, c.loop-definition.invariant.counted, c.requires)

pub loop-definition-preserved : goal.loop-definition-preserved
loop-definition-preserved c =
    let next = next_counted c.args.definitions.now c.loop-definition.definition-index c.definition-item.result (definition_of c.parts-parts.result.now) c.loop-definition-test.true c.definition-item.is c.parts-parts.ensures.is in record {
      declared =
          locals_turn c.args.definitions.now c.loop-definition.definition-index c.number_after-number.result c.loop-definition.number c.definition-item.result c.as_str.result.now c.loop-definition.names c.declare.new.self _ c.in_ok-_new._new c.loop-definition-test.true c.definition-item.is
          (c.as_str.ensures ∙ ap local_name c.parts-parts.ensures.is)
          (c.number_after-number.ensures ∙ ap (λ d. suc c.loop-definition.number + count_in (local_body d)) c.parts-parts.ensures.is)
          c.in_ok-_new.ensures.new
          c.in_ok-_new.ensures.added
          c.loop-definition.invariant.declared;
      counted = omega (arith, next, c.loop-definition.invariant.counted, c.number_after-number.ensures);
    }
