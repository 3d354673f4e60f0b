use Rattle.std.proofs.Common.{◌-◌, ap, sym, ◌∙◌, arith}
use Rattle.std.proofs.lemmas.Result.{err_from_is_err_and}
use Rattle.token_reader.specs.inner.Reader.{Read}
use Rattle.spec_parser.proofs.TurnLaws.{within_is, no_choice, nothing_left, unit_read, inside_read}
use Rattle.spec_parser.proofs.LoopLaws.{operand_shorter, link_passes, link_fails, link_ends, links_empty, within_shorter, comma_passes, comma_fails, comma_ends, comma_empty}
use Rattle.spec_parser.proofs.expression.+parser.Goals as goal
use Rattle.spec_parser.proofs.expression.+parser.Goals.{more_links-in-Some+in-None, more_links-in_default, more_arguments-in-Some+then-not-fits, more_arguments-in_default}

pub more_links-returns-in_err-operand-in-Some-operator : goal.more_links-returns-in_err-operand-in-Some-operator
more_links-returns-in_err-operand-in-Some-operator t c =
    let p = err_from_is_err_and c.from_residual.result c.from_residual.ensures.1 in
    rw (p.1, p.2) (link_fails c.args.level c.args.room c.links.links.items c.links.rest.now c.in-Some.token.now c.in-Some.after.now _ c.in-Some.ensures.cases.0 c.links.invariant c.in-Some-operator.operator c.in-Some-operator.ensures c.in_err-operand-in-Some-operator.field-0.0 c.in_err-operand-in-Some-operator.ensures)

pub more_links-links-smaller : goal.more_links-links-smaller
more_links-links-smaller t c =
    let h = operand_shorter c.args.level c.args.room c.in-Some.after.now c.in_ok-operand-in-Some-operator.left.now c.in_ok-operand-in-Some-operator.operand c.in_ok-operand-in-Some-operator.ensures in
    let k = c.in-Some.ensures.cases.1 in
    omega arith

pub more_links-links-preserved : goal.more_links-links-preserved
more_links-links-preserved t c =
    rw c.in_ok-push-in-Some-operator.ensures.items (link_passes c.args.level c.args.room c.links.links.items c.links.rest.now c.in-Some.token.now c.in-Some.after.now _ c.in-Some.ensures.cases.0 c.links.invariant c.in-Some-operator.operator c.in-Some-operator.ensures c.in_ok-operand-in-Some-operator.operand c.in_ok-operand-in-Some-operator.left.now c.in_ok-operand-in-Some-operator.ensures)

pub more_links-returns : goal.more_links-returns
more_links-returns t c = elim c.match-split_first.branch [
  | more_links-in-Some+in-None w ↦ link_ends c.args.level c.args.room c.links.links.items c.links.rest.now w.in-Some.token.now w.in-Some.after.now _ w.in-Some.ensures.cases.0 c.links.invariant w.in-None.ensures
  | more_links-in_default w ↦ links_empty c.args.level c.args.room c.links.links.items c.links.rest.now _ w.in_default.ensures.cases c.links.invariant
]

pub more_arguments-returns-in_err-expression : goal.more_arguments-returns-in_err-expression
more_arguments-returns-in_err-expression t c =
    let p = err_from_is_err_and c.from_residual.result c.from_residual.ensures.1 in
    rw (p.1, p.2) (comma_fails c.args.room c.others.all.items c.others.rest.now c.in-Some.token.now c.in-Some.after.now _ c.in-Some.ensures.cases.0 c.others.invariant c.if-not-fits.ensures c.in_err-expression.field-0.0 c.in_err-expression.ensures)

pub more_arguments-others-smaller : goal.more_arguments-others-smaller
more_arguments-others-smaller t c =
    let h = within_shorter c.args.room c.in-Some.after.now c.in_ok-expression.left.now c.in_ok-expression.expression c.in_ok-expression.ensures in
    let k = c.in-Some.ensures.cases.1 in
    omega arith

pub more_arguments-others-preserved : goal.more_arguments-others-preserved
more_arguments-others-preserved t c = rw c.in_ok-push.ensures.items (comma_passes c.args.room c.others.all.items c.others.rest.now c.in-Some.token.now c.in-Some.after.now _ c.in-Some.ensures.cases.0 c.others.invariant c.if-not-fits.ensures c.in_ok-expression.expression c.in_ok-expression.left.now c.in_ok-expression.ensures)

pub more_arguments-returns : goal.more_arguments-returns
more_arguments-returns t c = elim c.match-split_first.branch [
  | more_arguments-in-Some+then-not-fits w ↦ comma_ends c.args.room c.others.all.items c.others.rest.now w.in-Some.token.now w.in-Some.after.now _ w.in-Some.ensures.cases.0 c.others.invariant w.if-not-fits.ensures
  | more_arguments-in_default w ↦ comma_empty c.args.room c.others.all.items c.others.rest.now _ w.in_default.ensures.cases c.others.invariant
]

pub within_room-returns : goal.within_room-returns
within_room-returns t c = rw (within_is c.args.room (c.args.room - 1) c.args.tokens.now (omega arith)) c.any_expression.ensures

pub any_expression-returns-else-begins_choice : goal.any_expression-returns-else-begins_choice
any_expression-returns-else-begins_choice t c = rw (no_choice c.args.room c.args.tokens.now c.in-Some.token.now c.in-Some.rest.now c.in-Some.ensures.cases.0 c.if-begins_choice.ensures) c.chain.ensures

pub parens-returns-in-None : goal.parens-returns-in-None
parens-returns-in-None t c = rw (nothing_left c.args.room c.args.place c.args.tokens.now (omega arith) c.in-None.ensures.cases) c.inside.ensures

pub parens-returns-then-fits : goal.parens-returns-then-fits
parens-returns-then-fits t c =
    unit_read c.args.room c.args.place c.args.tokens.now (omega arith) c.in-Some.token.now c.in-Some.rest.now c.in-Some.ensures.cases.0 c.if-fits.ensures
    ∙ ap (λ e. Read e c.in-Some.rest.now) (sym c.new.ensures)

pub parens-returns-else-fits : goal.parens-returns-else-fits
parens-returns-else-fits t c = rw (inside_read c.args.room c.args.place c.args.tokens.now (omega arith) c.in-Some.token.now c.in-Some.rest.now c.in-Some.ensures.cases.0 c.if-fits.ensures) c.inside-else-fits.ensures
