use Rattle.std.proofs.Common.{ℕ, List, ◌++◌, Some, sym, ap, ◌∙◌}
use Rattle.tsl_value.specs.declared.scalar.Scalar.{Scalar}
use Rattle.flat_core.specs.Line.{Line}
use Rattle.trace_monitor.proofs.Taking.{on_ok, given_on, none_given_on, one_event}
use Rattle.trace_monitor.proofs.monitor.give.Goals as goal

pub event-requires : goal.event-requires
event-requires c = λ going. c.requires.takes _ _ (c.in-Some.is ∙ ap (λ (e : ℕ × Scalar). Some e) (sym c.in-Some.event-is))

pub returns-in-Some-clause-given : goal.returns-in-Some-clause-given
returns-in-Some-clause-given c =
    let is = c.in-Some.is ∙ ap (λ (e : ℕ × Scalar). Some e) (sym c.in-Some.event-is) in
    on_ok c.event.result _ _ (λ same. given_on c.args.engine.now c.event.new.self c.args.line _ _ is c.instants.ensures.ready (c.requires.takes _ _ is) same) c.event.ensures.given

pub returns-in-Some-clause-any : goal.returns-in-Some-clause-any
returns-in-Some-clause-any c =
    let is = c.in-Some.is ∙ ap (λ (e : ℕ × Scalar). Some e) (sym c.in-Some.event-is) in
    on_ok c.event.result _ _ (λ same. same ∙ sym (ap (λ (ls : List Line). record c.args.engine.now { given = c.args.engine.now.given ++ ls }) (one_event c.args.line _ _ is))) c.event.ensures.given

pub returns-in-None-clause-any : goal.returns-in-None-clause-any
returns-in-None-clause-any c = none_given_on c.args.engine.now c.args.line c.in-None.is
