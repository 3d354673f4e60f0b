use Rattle.std.proofs.Common.{◌≡◌, ◌∷◌, None, rules, sym, ap, ◌∙◌}
use Rattle.syntax_tree.specs.inner.OneLevel.{definition_of}
use Rattle.name_check.specs.declared.declaration.Declaration.TheVariants as declaration
use Rattle.name_check.specs.inner.Steps.{names_of}
use Rattle.syntax_tree.proofs.Sizes.{definition_smaller}
use Rattle.name_check.proofs.TwiceLemmas.{block_turn, block_hit, one_more_name, whatever, if_none}
use Rattle.name_check.proofs.twice.+twice.Goals as goal

pub find_in_block-find_in_local-requires : goal.find_in_block-find_in_local-requires
find_in_block-find_in_local-requires t c =
    let smaller = definition_smaller c.args.definitions.now c.loop-definition.definition-index c.definition-item.result (definition_of c.parts.result.now) c.loop-definition-test.true c.definition-item.is c.parts.ensures.is in
    search rules

pub find_in_block-returns-in-Some : goal.find_in_block-returns-in-Some
find_in_block-returns-in-Some t c =
    block_hit c.args.definitions.now c.loop-definition.definition-index c.definition-item.result (definition_of c.parts.result.now) c.loop-definition.before c.in-Some.place _ c.loop-definition-test.true c.definition-item.is c.parts.ensures.is c.loop-definition.invariant
    (sym c.in-Some.is ∙ c.in_ok-place.ensures.found)

pub find_in_block-loop-definition-preserved : goal.find_in_block-loop-definition-preserved
find_in_block-loop-definition-preserved t c =
    let none : c.in_ok-place.field-0 ≡ None = search rules in
    block_turn c.args.definitions.now c.loop-definition.definition-index c.definition-item.result (definition_of c.parts.result.now) c.loop-definition.before c.find_in_local.new.before _ c.loop-definition-test.true c.definition-item.is c.parts.ensures.is c.loop-definition.invariant
    (sym none ∙ c.in_ok-place.ensures.found)
    (if_none c.in_ok-place.field-0 _ c.in_ok-place.ensures.declared none)

pub find_in_local-returns-clause-declared : goal.find_in_local-returns-clause-declared
find_in_local-returns-clause-declared t c =
    let none : c.in_ok-place.field-0 ≡ None = search rules in
    whatever _ c.find_in_body.result
    (one_more_name c.args.before.now c.declare.new.names c.as_str.result.now (declaration.Local 0) (if_none c.in_ok-place.field-0 _ c.in_ok-place.ensures.declared none)
    ∙ ap (λ n. n ∷ names_of c.args.before.now) c.as_str.ensures)
