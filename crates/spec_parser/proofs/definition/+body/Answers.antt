use Rattle.std.proofs.Common.{◌+◌, arith}
use Rattle.std.proofs.lemmas.Result.{err_from_is_err_and}
use Rattle.syntax_tree.specs.inner.OneLevel.{body_of, params_in}
use Rattle.spec_parser.proofs.TurnLaws.{what_follows_is}
use Rattle.spec_parser.proofs.CountLaws.{read_counted}
use Rattle.spec_parser.proofs.ItemLoops.{definition_shorter, definition_passes, definition_fails, definitions_end, definitions_empty}
use Rattle.spec_parser.proofs.definition.+body.Goals as goal
use Rattle.spec_parser.proofs.definition.+body.Goals.{definitions-in-Some+then-not-begins_definition, definitions-in_default}

pub definitions-returns-in_err-definition : goal.definitions-returns-in_err-definition
definitions-returns-in_err-definition t c =
    let p = err_from_is_err_and c.from_residual.result c.from_residual.ensures.1 in
    rw (p.1, p.2) (definition_fails c.args.room c.definitions.definitions.items c.definitions.rest.now c.in-Some.token.now c.in-Some.after.now _ c.in-Some.ensures.cases.0 c.definitions.invariant c.if-not-begins_definition.ensures c.in_err-definition.field-0.0 c.in_err-definition.ensures)

pub definitions-definitions-smaller : goal.definitions-definitions-smaller
definitions-definitions-smaller t c =
    let h = definition_shorter c.args.room c.in-Some.after.now c.in_ok-definition.left.now c.in_ok-definition.definition c.in_ok-definition.ensures in
    let k = c.in-Some.ensures.cases.1 in
    omega arith

pub definitions-definitions-preserved : goal.definitions-definitions-preserved
definitions-definitions-preserved t c = rw c.in_ok-push.ensures.items (definition_passes c.args.room c.definitions.definitions.items c.definitions.rest.now c.in-Some.token.now c.in-Some.after.now _ c.in-Some.ensures.cases.0 c.definitions.invariant c.if-not-begins_definition.ensures c.in_ok-definition.definition c.in_ok-definition.left.now c.in_ok-definition.ensures)

pub definitions-returns : goal.definitions-returns
definitions-returns t c = elim c.match-split_first.branch [
  | definitions-in-Some+then-not-begins_definition w ↦ definitions_end c.args.room c.definitions.definitions.items c.definitions.rest.now w.in-Some.token.now w.in-Some.after.now _ w.in-Some.ensures.cases.0 c.definitions.invariant w.if-not-begins_definition.ensures
  | definitions-in_default w ↦ definitions_empty c.args.room c.definitions.definitions.items c.definitions.rest.now _ w.in_default.ensures.cases c.definitions.invariant
]

pub after_head-returns : goal.after_head-returns
after_head-returns t c = rw (what_follows_is c.args.room (c.args.room + 1) c.args.place c.args.name.now (params_in c.args.params.items) c.args.tokens.now c.in_ok-written.written c.in_ok-written.rest.now (omega arith) c.in_ok-written.ensures) c.defined.ensures

pub defined-new-requires : goal.defined-new-requires
defined-new-requires t c =
    let few = read_counted c.args.room c.in_ok-rest.rest.now c.in_ok-body.rest.now (body_of c.in_ok-body.body) c.in_ok-body.ensures in
    omega (arith, few)
