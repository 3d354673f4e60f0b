use Rattle.std.proofs.Common.{◌≡◌, false, [], ◌∷◌, ◌++◌, None, rules, sym, ◌∙◌}
use Rattle.std.specs.Option.{option_map}
use Rattle.std.proofs.lemmas.Result.{err_from_is_err_and}
use Rattle.syntax_tree.specs.inner.OneLevel.{exprs_of, links_in}
use Rattle.syntax_tree.specs.declared.tree.Node.TheVariants as node
use Rattle.name_check.specs.Builtin.{is_lift}
use Rattle.name_check.specs.inner.Shown.{nowhere}
use Rattle.syntax_tree.proofs.Sizes.{argument_smaller, link_smaller, front_within, size_of_node}
use Rattle.expr_types.specs.Judge.{types_of}
use Rattle.expr_types.specs.inner.Shown.{around_of, callee_in}
use Rattle.expr_types.specs.inner.Steps.{argument_wrongs, link_wrongs, chain_verdict}
use Rattle.expr_types.specs.inner.Answers.{types_in}
use Rattle.expr_types.proofs.ArgumentLemmas.{arguments_fine, arguments_more, arguments_stop, arguments_end, lift_stop, lift_done}
use Rattle.expr_types.proofs.CallLemmas.{call_stop}
use Rattle.expr_types.proofs.ChainLemmas.{links_fine, links_more, links_clash, links_stop, links_end, same_chain}
use Rattle.expr_types.proofs.WrongLemmas.{expression_stops, expression_allowed, expression_broken, at_node}
use Rattle.expr_types.proofs.judge.+judge.Goals as goal

-- ---- parts are smaller
pub arguments-expression-requires : goal.arguments-expression-requires
arguments-expression-requires t c =
    let smaller = argument_smaller c.args.parts.now c.loop-part.part-index c.part-item.result c.loop-part-test.true c.part-item.is in
    search rules

pub links-expression-requires : goal.links-expression-requires
links-expression-requires t c =
    let smaller = link_smaller c.args.links.now c.loop-link.link-index c.link-item.result c.loop-link-test.true c.link-item.is in
    search rules

pub lift-arguments-requires : goal.lift-arguments-requires
lift-arguments-requires t c =
    let whole : c.args.parts.now ≡ c.in-Some.streams.now ++ c.in-Some.function.now ∷ [] = search rules in
    let smaller = front_within c.args.parts.now c.in-Some.streams.now c.in-Some.function.now whole in
    search rules

pub expression-inner-requires : goal.expression-inner-requires
expression-inner-requires t c =
    let smaller = size_of_node c.args.expression.now c.node.result.now nowhere c.node.ensures in
    search rules

-- ---- an expression
pub expression-returns-in_err-verdict : goal.expression-returns-in_err-verdict
expression-returns-in_err-verdict t c =
    let p = err_from_is_err_and c.from_residual.result c.from_residual.ensures.1 in
    rw (p.1, p.2) (expression_stops (around_of c.args.at.now) c.args.expression.now c.node.result.now c.in_err-verdict.field-0.0 c.node.ensures c.in_err-verdict.ensures)

pub expression-returns-in-Some : goal.expression-returns-in-Some
expression-returns-in-Some t c =
    expression_broken (around_of c.args.at.now) c.args.expression.now c.node.result.now c.in_ok-verdict.verdict c.in-Some.clash c.place-place.result c.node.ensures c.in_ok-verdict.ensures
    (sym c.in-Some.is ∙ c.clash_of.ensures) c.place-place.ensures

pub expression-returns : goal.expression-returns
expression-returns t c =
    let none : c.clash_of.result ≡ None = search rules in
    expression_allowed (around_of c.args.at.now) c.args.expression.now c.node.result.now c.in_ok-verdict.verdict c.allowed.result c.node.ensures c.in_ok-verdict.ensures
    (sym none ∙ c.clash_of.ensures) c.allowed.ensures

-- ---- arguments
pub arguments-returns-in_err-of : goal.arguments-returns-in_err-of
arguments-returns-in_err-of t c =
    let p = err_from_is_err_and c.from_residual.result c.from_residual.ensures.1 in
    let at = around_of c.args.at.now in
    let es = c.args.parts.now in
    rw (p.1, p.2)
    (arguments_stop at es c.loop-part.part-index c.part-item.result (types_in c.loop-part.types) (types_of at (exprs_of es)) (argument_wrongs at (exprs_of es)) c.in_err-of.field-0.0 c.loop-part-test.true c.part-item.is c.loop-part.invariant.fine c.loop-part.invariant.so_far c.in_err-of.ensures)

pub arguments-loop-part-preserved : goal.arguments-loop-part-preserved
arguments-loop-part-preserved t c =
    let at = around_of c.args.at.now in
    let es = c.args.parts.now in
    record {
      fine = arguments_fine at es c.loop-part.part-index c.part-item.result (argument_wrongs at (exprs_of es)) c.in_ok-of.of c.loop-part-test.true c.part-item.is c.loop-part.invariant.fine c.in_ok-of.ensures;
      so_far = arguments_more at es c.loop-part.part-index c.part-item.result (types_in c.loop-part.types) _ (types_of at (exprs_of es)) c.in_ok-of.of c.loop-part-test.true c.part-item.is c.loop-part.invariant.so_far c.in_ok-of.ensures c.in_ok-types.ensures;
    }

pub arguments-returns : goal.arguments-returns
arguments-returns t c =
    let at = around_of c.args.at.now in
    let es = c.args.parts.now in
    arguments_end at es c.loop-part.part-index (types_in c.loop-part.types) (types_of at (exprs_of es)) (argument_wrongs at (exprs_of es)) c.loop-part-test.false c.loop-part.invariant.fine c.loop-part.invariant.so_far

-- ---- `lift`
pub lift-returns-in_err-streams-in-Some : goal.lift-returns-in_err-streams-in-Some
lift-returns-in_err-streams-in-Some t c =
    let p = err_from_is_err_and c.from_residual.result c.from_residual.ensures.1 in
    let whole : c.args.parts.now ≡ c.in-Some.streams.now ++ c.in-Some.function.now ∷ [] = search rules in
    rw (p.1, p.2)
    (lift_stop (around_of c.args.at.now) c.args.parts.now c.in-Some.streams.now c.in-Some.function.now c.in_err-streams-in-Some.field-0.0 whole c.in_err-streams-in-Some.ensures)

pub lift-returns-in_ok-function-in-Some : goal.lift-returns-in_ok-function-in-Some
lift-returns-in_ok-function-in-Some t c =
    let whole : c.args.parts.now ≡ c.in-Some.streams.now ++ c.in-Some.function.now ∷ [] = search rules in
    lift_done (around_of c.args.at.now) c.args.parts.now c.in-Some.streams.now c.in-Some.function.now (types_in c.in_ok-streams-in-Some.streams) (option_map callee_in c.in_ok-function-in-Some.function) c.lifted_by.result whole c.in_ok-streams-in-Some.ensures c.in_ok-function-in-Some.ensures c.lifted_by.ensures

-- ---- chains
pub inner-returns-in-Chain : goal.inner-returns-in-Chain
inner-returns-in-Chain t c =
    let at = around_of c.args.at.now in
    at_node at (node.Chain c.in-Chain.level c.in-Chain.first c.in-Chain.links) c.args.node.now c.chain.result c.in-Chain.is
    (same_chain at c.in-Chain.level c.deref-in-Chain.result.now c.in-Chain.first.value c.deref-in-Chain-2.result.now c.in-Chain.links.items c.chain.result c.deref-in-Chain.ensures c.deref-in-Chain-2.ensures.value c.chain.ensures)

pub links-returns-in_err-operand : goal.links-returns-in_err-operand
links-returns-in_err-operand t c =
    let p = err_from_is_err_and c.from_residual.result c.from_residual.ensures.1 in
    let at = around_of c.args.at.now in
    let ls = c.args.links.now in
    rw (p.1, p.2)
    (links_stop at c.args.level ls c.loop-link.link-index c.link-item.result c.loop-link.chained (chain_verdict at c.args.level c.args.first (links_in ls)) (link_wrongs at (links_in ls)) c.in_err-operand.field-0.0 c.loop-link-test.true c.link-item.is c.loop-link.invariant.fine c.loop-link.invariant.so_far c.in_err-operand.ensures)

pub links-returns-in-Some : goal.links-returns-in-Some
links-returns-in-Some t c =
    let at = around_of c.args.at.now in
    let ls = c.args.links.now in (
      tt,
      links_clash at c.args.level ls c.loop-link.link-index c.link-item.result c.loop-link.chained c.in_ok-operand.operand c.linked-verdict.result (chain_verdict at c.args.level c.args.first (links_in ls)) c.in-Some.clash c.loop-link-test.true c.link-item.is c.loop-link.invariant.so_far c.in_ok-operand.ensures c.linked-verdict.ensures (sym c.in-Some.is ∙ c.clash_of.ensures),
    )

pub links-loop-link-preserved : goal.links-loop-link-preserved
links-loop-link-preserved t c =
    let none : c.clash_of.result ≡ None = search rules in
    let at = around_of c.args.at.now in
    let ls = c.args.links.now in
    record {
      fine = links_fine at ls c.loop-link.link-index c.link-item.result (link_wrongs at (links_in ls)) c.in_ok-operand.operand c.loop-link-test.true c.link-item.is c.loop-link.invariant.fine c.in_ok-operand.ensures;
      so_far = links_more at c.args.level ls c.loop-link.link-index c.link-item.result c.loop-link.chained c.in_ok-operand.operand c.allowed-chained.result c.linked-verdict.result (chain_verdict at c.args.level c.args.first (links_in ls)) c.loop-link-test.true c.link-item.is c.loop-link.invariant.so_far c.in_ok-operand.ensures c.linked-verdict.ensures (sym none ∙ c.clash_of.ensures) c.allowed-chained.ensures;
    }

pub links-returns : goal.links-returns
links-returns t c =
    let at = around_of c.args.at.now in
    let ls = c.args.links.now in
    links_end at c.args.level ls c.loop-link.link-index c.loop-link.chained c.just.result (chain_verdict at c.args.level c.args.first (links_in ls)) (link_wrongs at (links_in ls)) c.loop-link-test.false c.loop-link.invariant.fine c.loop-link.invariant.so_far c.just.ensures

-- ---- calls
pub call-returns-in_err-types : goal.call-returns-in_err-types
call-returns-in_err-types t c =
    let p = err_from_is_err_and c.from_residual.result c.from_residual.ensures.1 in
    let other : is_lift c.args.name.now ≡ false = search rules in
    rw (p.1, p.2) (call_stop (around_of c.args.at.now) c.args.name.now (exprs_of c.args.parts.now) c.in_err-types.field-0.0 other c.in_err-types.ensures)
