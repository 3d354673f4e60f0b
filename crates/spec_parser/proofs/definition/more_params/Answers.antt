use Rattle.std.proofs.Common.{arith}
use Rattle.std.proofs.lemmas.Result.{err_from_is_err_and}
use Rattle.syntax_tree.specs.inner.OneLevel.{param_of}
use Rattle.spec_parser.proofs.ItemLoops.{param_shorter, param_passes, param_fails, params_end, params_empty}
use Rattle.spec_parser.proofs.definition.more_params.Goals as goal
use Rattle.spec_parser.proofs.definition.more_params.Goals.{in-Some+then-not-fits, in_default}

pub returns-in_err-param : goal.returns-in_err-param
returns-in_err-param c =
    let p = err_from_is_err_and c.from_residual.result c.from_residual.ensures.1 in
    rw (p.1, p.2) (param_fails c.args.room c.params.all.items c.params.rest.now c.in-Some.token.now c.in-Some.after.now _ c.in-Some.ensures.cases.0 c.params.invariant c.if-not-fits.ensures c.in_err-param.field-0.0 c.in_err-param.ensures)

pub params-smaller : goal.params-smaller
params-smaller c =
    let h = param_shorter c.args.room c.in-Some.after.now c.in_ok-param.left.now (param_of c.in_ok-param.param) c.in_ok-param.ensures in
    let k = c.in-Some.ensures.cases.1 in
    omega arith

pub params-preserved : goal.params-preserved
params-preserved c = rw c.in_ok-push.ensures.items (param_passes c.args.room c.params.all.items c.params.rest.now c.in-Some.token.now c.in-Some.after.now _ c.in-Some.ensures.cases.0 c.params.invariant c.if-not-fits.ensures c.in_ok-param.param c.in_ok-param.left.now c.in_ok-param.ensures)

pub returns : goal.returns
returns c = elim c.match-split_first.branch [
  | in-Some+then-not-fits w ↦ params_end c.args.room c.params.all.items c.params.rest.now w.in-Some.token.now w.in-Some.after.now _ w.in-Some.ensures.cases.0 c.params.invariant w.if-not-fits.ensures
  | in_default w ↦ params_empty c.args.room c.params.all.items c.params.rest.now _ w.in_default.ensures.cases c.params.invariant
]
