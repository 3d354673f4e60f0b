use Rattle.std.specs.Prelude.{[], ◌∷◌, take}
use Rattle.std.proofs.lemmas.Result.{on_err_weaker}
use Rattle.tsl_value.proofs.Results.{on_err}
use Rattle.spec_lexer.specs.declared.token.Symbol.TheVariants as symbol
use Rattle.syntax_tree.specs.inner.OneLevel.{params_in}
use Rattle.spec_printer.specs.inner.Marks as mark
use Rattle.spec_printer.specs.inner.Print.{param_marks_after}
use Rattle.spec_printer.proofs.Joined.{kept}
use Rattle.spec_printer.proofs.Turns.{params_turn}
use Rattle.spec_printer.proofs.definition.put_params.Goals as goal

pub loop-param-preserved : goal.loop-param-preserved
loop-param-preserved c =
    params_turn c.args.params.now c.loop-param.param-index c.param-item.result c.loop-param.before c.args.out.now c.loop-param.out c.put_symbol.new.out c.put_param.new.out c.loop-param-test.true c.param-item.is c.loop-param.invariant.0 c.loop-param.invariant.1 c.in_ok-put_symbol.ensures.ok c.in_ok-put_param.ensures.ok

pub returns-in_err-put_param-clause-err : goal.returns-in_err-put_param-clause-err
returns-in_err-put_param-clause-err c =
    on_err c.from_residual-in_err-put_param.result
    (kept c.args.out.now c.loop-param.out c.put_param.new.out (param_marks_after symbol.Open (params_in (take c.loop-param.param-index c.args.params.now))) c.loop-param.invariant.1
    (kept c.loop-param.out c.put_symbol.new.out c.put_param.new.out (mark.symbol c.loop-param.before ∷ []) c.in_ok-put_symbol.ensures.ok c.in_err-put_param.ensures.err))

pub returns-clause-err : goal.returns-clause-err
returns-clause-err c =
    on_err_weaker c.put_symbol-2.result
    (kept c.args.out.now c.loop-param.out c.put_symbol-2.new.out (param_marks_after symbol.Open (params_in (take c.loop-param.param-index c.args.params.now))) c.loop-param.invariant.1)
    c.put_symbol-2.ensures.err
