use Rattle.std.proofs.Common.{rules, [], ◌∷◌, take}
use Rattle.std.proofs.lemmas.Result.{on_err_weaker}
use Rattle.tsl_value.proofs.Results.{on_err}
use Rattle.spec_lexer.specs.declared.token.Symbol.TheVariants as symbol
use Rattle.syntax_tree.specs.inner.OneLevel.{exprs_of, links_in}
use Rattle.spec_printer.specs.inner.Marks as mark
use Rattle.spec_printer.specs.inner.Print.{link_marks, expr_marks_after}
use Rattle.spec_printer.proofs.Anywhere.{marks_of_node}
use Rattle.spec_printer.proofs.Joined.{kept}
use Rattle.syntax_tree.proofs.Sizes.{argument_smaller, link_smaller}
use Rattle.spec_printer.proofs.Turns.{arguments_turn, links_turn}
use Rattle.spec_printer.proofs.expression.+printer.Goals as goal

pub put_arguments-loop-argument-preserved : goal.put_arguments-loop-argument-preserved
put_arguments-loop-argument-preserved t c =
    arguments_turn c.args.arguments.now c.loop-argument.argument-index c.argument-item.result c.loop-argument.before c.args.out.now c.loop-argument.out c.put_symbol.new.out c.put_expression.new.out c.loop-argument-test.true c.argument-item.is c.loop-argument.invariant.0 c.loop-argument.invariant.1 c.in_ok-put_symbol.ensures.ok c.in_ok-put_expression.ensures.ok

pub put_arguments-returns-in_err-put_expression-clause-err : goal.put_arguments-returns-in_err-put_expression-clause-err
put_arguments-returns-in_err-put_expression-clause-err t c =
    on_err c.from_residual-in_err-put_expression.result
    (kept c.args.out.now c.loop-argument.out c.put_expression.new.out (expr_marks_after symbol.Open (exprs_of (take c.loop-argument.argument-index c.args.arguments.now))) c.loop-argument.invariant.1
    (kept c.loop-argument.out c.put_symbol.new.out c.put_expression.new.out (mark.symbol c.loop-argument.before ∷ []) c.in_ok-put_symbol.ensures.ok c.in_err-put_expression.ensures.err))

pub put_arguments-returns-clause-err : goal.put_arguments-returns-clause-err
put_arguments-returns-clause-err t c =
    on_err_weaker c.put_symbol-2.result
    (kept c.args.out.now c.loop-argument.out c.put_symbol-2.new.out (expr_marks_after symbol.Open (exprs_of (take c.loop-argument.argument-index c.args.arguments.now))) c.loop-argument.invariant.1)
    c.put_symbol-2.ensures.err

pub put_links-loop-link-preserved : goal.put_links-loop-link-preserved
put_links-loop-link-preserved t c =
    links_turn c.args.least c.args.links.now c.loop-link.link-index c.link-item.result c.symbol_of_operator.result c.args.out.now c.loop-link.out c.put_symbol.new.out c.put_operand.new.out c.loop-link-test.true c.link-item.is c.symbol_of_operator.ensures c.loop-link.invariant c.in_ok-put_symbol.ensures.ok c.in_ok-put_operand.ensures.ok

pub put_expression-returns-clause-ok : goal.put_expression-returns-clause-ok
put_expression-returns-clause-ok t c = rw (marks_of_node c.args.expression.now c.node.result.now c.node.ensures) c.put_node.ensures.ok

pub put_arguments-put_expression-requires : goal.put_arguments-put_expression-requires
put_arguments-put_expression-requires t c =
    let smaller = argument_smaller c.args.arguments.now c.loop-argument.argument-index c.argument-item.result c.loop-argument-test.true c.argument-item.is in
    search rules

pub put_links-put_operand-requires : goal.put_links-put_operand-requires
put_links-put_operand-requires t c =
    let smaller = link_smaller c.args.links.now c.loop-link.link-index c.link-item.result c.loop-link-test.true c.link-item.is in
    search rules

pub put_links-returns-in_err-put_operand-clause-err : goal.put_links-returns-in_err-put_operand-clause-err
put_links-returns-in_err-put_operand-clause-err t c =
    on_err c.from_residual-in_err-put_operand.result
    (kept c.args.out.now c.loop-link.out c.put_operand.new.out (link_marks c.args.least (links_in (take c.loop-link.link-index c.args.links.now))) c.loop-link.invariant
    (kept c.loop-link.out c.put_symbol.new.out c.put_operand.new.out (mark.symbol c.symbol_of_operator.result ∷ []) c.in_ok-put_symbol.ensures.ok c.in_err-put_operand.ensures.err))
