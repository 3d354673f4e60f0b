use Rattle.std.proofs.Common.{ap, sym, subst, ◌∙◌}
use Rattle.flat_core.specs.System.{IsProper, OutputsRun}
use Rattle.code_check.specs.inner.Unchanged.{own_numbers}
use Rattle.code_check.proofs.Unchanged.{replaces, same_system}
use Rattle.code_check.proofs.system.with_running.Goals as goal

pub simplified-requires-clause-replaced : goal.simplified-requires-clause-replaced
simplified-requires-clause-replaced c =
    replaces c.args.flat c.in_ok-numbers.numbers c.args.running (c.in_ok-numbers.ensures ∙ ap own_numbers c.count.ensures.count)

pub simplified-requires-clause-outputs_run : goal.simplified-requires-clause-outputs_run
simplified-requires-clause-outputs_run c =
    subst OutputsRun (sym (same_system c.args.flat c.in_ok-numbers.numbers c.args.running (c.in_ok-numbers.ensures ∙ ap own_numbers c.count.ensures.count)))
    c.requires.outputs_run

pub simplified-requires-clause-proper : goal.simplified-requires-clause-proper
simplified-requires-clause-proper c =
    subst IsProper (sym (same_system c.args.flat c.in_ok-numbers.numbers c.args.running (c.in_ok-numbers.ensures ∙ ap own_numbers c.count.ensures.count)))
    c.requires.proper

pub returns : goal.returns
returns c =
    c.simplified.ensures ∙ same_system c.args.flat c.in_ok-numbers.numbers c.args.running (c.in_ok-numbers.ensures ∙ ap own_numbers c.count.ensures.count)
