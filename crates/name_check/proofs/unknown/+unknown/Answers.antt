use Rattle.std.proofs.Common.{rules, sym, ap, ◌∙◌}
use Rattle.syntax_tree.specs.inner.OneLevel.{definition_of, definitions_of}
use Rattle.name_check.specs.Scope.{seen}
use Rattle.name_check.specs.Faults.{first, unknown_in}
use Rattle.name_check.specs.inner.Steps.{unknown_in_locals}
use Rattle.syntax_tree.proofs.Sizes.{definition_smaller}
use Rattle.name_check.proofs.UnknownLemmas.{unknown_same}
use Rattle.name_check.proofs.WalkLemmas.{block_hit, block_rest, locals_hit, locals_turn, ok_same}
use Rattle.name_check.proofs.unknown.+unknown.Goals as goal

pub find_in_block-returns-in-Some : goal.find_in_block-returns-in-Some
find_in_block-returns-in-Some t c =
    let all = definitions_of c.args.definitions.now in
    block_hit unknown_in unknown_same c.in_ok-locals.field-0 (seen c.args.scope.now) all c.args.last.now c.in-Some.place c.in_ok-locals.ensures
    (sym c.in-Some.is ∙ c.in_ok-place.ensures ∙ ap (λ l. first (unknown_in_locals (seen l) all)) c.inner-inner.ensures)

pub find_in_block-returns : goal.find_in_block-returns
find_in_block-returns t c =
    let all = definitions_of c.args.definitions.now in
    ok_same c.find_in_expression.result _ _
    (ap (λ l. first (unknown_in (record { scope = seen l; expr = c.args.last.now }))) c.inner-inner.ensures
    ∙ block_rest unknown_in unknown_same c.in_ok-locals.field-0 (seen c.args.scope.now) all c.args.last.now c.in_ok-locals.ensures
    (sym c.in_default.is ∙ c.in_ok-place.ensures ∙ ap (λ l. first (unknown_in_locals (seen l) all)) c.inner-inner.ensures))
    c.find_in_expression.ensures

pub find_in_locals-find_in_local-requires : goal.find_in_locals-find_in_local-requires
find_in_locals-find_in_local-requires t c =
    let smaller = definition_smaller c.args.definitions.now c.loop-definition.definition-index c.definition-item.result (definition_of c.parts.result.now) c.loop-definition-test.true c.definition-item.is c.parts.ensures.is in
    (search rules, c.parts.ensures.few)

pub find_in_locals-returns-in-Some : goal.find_in_locals-returns-in-Some
find_in_locals-returns-in-Some t c =
    locals_hit unknown_in unknown_same (seen c.args.scope.now) c.args.definitions.now c.loop-definition.definition-index c.definition-item.result (definition_of c.parts.result.now) c.in-Some.place _ c.loop-definition-test.true c.definition-item.is c.parts.ensures.is c.loop-definition.invariant
    (sym c.in-Some.is ∙ c.in_ok-place.ensures)

pub find_in_locals-loop-definition-preserved : goal.find_in_locals-loop-definition-preserved
find_in_locals-loop-definition-preserved t c =
    locals_turn unknown_in unknown_same (seen c.args.scope.now) c.args.definitions.now c.loop-definition.definition-index c.definition-item.result (definition_of c.parts.result.now) _ c.loop-definition-test.true c.definition-item.is c.parts.ensures.is c.loop-definition.invariant
    (sym c.in_default.is ∙ c.in_ok-place.ensures)
