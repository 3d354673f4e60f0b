use Rattle.std.proofs.Common.{◌≡◌, Some, sym, ap, ◌∙◌}
use Rattle.std.specs.Prelude.{slice_get}
use Rattle.monitor_run.specs.inner.Instant.{with_event}
use Rattle.monitor_run.specs.inner.Registers.{register_at}
use Rattle.monitor_run.proofs.BeginLemmas.{given_other}
use Rattle.monitor_run.proofs.begin.give.Goals as goal

pub returns-else-get-clause-registers : goal.returns-else-get-clause-registers
returns-else-get-clause-registers c = λ i.
    let is : slice_get c.args.given.now.items 0 ≡ Some c.in-Some.line.now = sym (c.in-Some.ensures.value ∙ ap (λ ls. slice_get ls 0) c.deref.ensures.value) in
    ap (λ v. with_event v (register_at c.args.registers.now i))
    (sym (given_other c.args.given.now.items c.requires.one.0 c.args.time c.in-Some.line.now c.requires.one.1 is (λ same. c.if-get.false (c.get.ensures.value ∙ same ∙ sym c.get-in-Some.ensures.value)) i))
