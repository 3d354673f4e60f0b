use Rattle.std.proofs.Common.{rules, refl, take}
use Rattle.tsl_value.proofs.Results.{on_err}
use Rattle.syntax_tree.specs.inner.OneLevel.{definitions_of}
use Rattle.spec_printer.specs.inner.Print.{definition_marks, definitions_marks}
use Rattle.spec_printer.proofs.Joined.{kept}
use Rattle.syntax_tree.proofs.Sizes.{definition_smaller}
use Rattle.spec_printer.proofs.Turns.{definitions_turn}
use Rattle.spec_printer.proofs.definition.+definitions.Goals as goal

pub put_definitions-loop-definition-preserved : goal.put_definitions-loop-definition-preserved
put_definitions-loop-definition-preserved t c =
    definitions_turn c.args.definitions.now c.loop-definition.definition-index c.definition-item.result c.args.out.now c.loop-definition.out c.put_definition.new.out c.end_line.new.out c.loop-definition-test.true c.definition-item.is c.loop-definition.invariant c.in_ok-put_definition.ensures.ok c.in_ok-end_line.ensures.ok

pub put_definitions-put_definition-requires : goal.put_definitions-put_definition-requires
put_definitions-put_definition-requires t c =
    let smaller = definition_smaller c.args.definitions.now c.loop-definition.definition-index c.definition-item.result c.definition-item.result c.loop-definition-test.true c.definition-item.is refl in
    search rules

pub put_definitions-returns-in_err-put_definition-clause-err : goal.put_definitions-returns-in_err-put_definition-clause-err
put_definitions-returns-in_err-put_definition-clause-err t c =
    on_err c.from_residual.result
    (kept c.args.out.now c.loop-definition.out c.put_definition.new.out (definitions_marks (definitions_of (take c.loop-definition.definition-index c.args.definitions.now))) c.loop-definition.invariant c.in_err-put_definition.ensures.err)

pub put_definitions-returns-in_err-end_line-clause-err : goal.put_definitions-returns-in_err-end_line-clause-err
put_definitions-returns-in_err-end_line-clause-err t c =
    on_err c.from_residual-in_err-end_line.result
    (kept c.args.out.now c.loop-definition.out c.end_line.new.out (definitions_marks (definitions_of (take c.loop-definition.definition-index c.args.definitions.now))) c.loop-definition.invariant
    (kept c.loop-definition.out c.put_definition.new.out c.end_line.new.out (definition_marks c.definition-item.result) c.in_ok-put_definition.ensures.ok c.in_err-end_line.ensures.err))
