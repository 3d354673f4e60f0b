use Rattle.std.proofs.Common.{◌≡◌, ap, not, sym, subst, arith, ◌∙◌}
use Rattle.std.proofs.lemmas.List.{get_or_default}
use Rattle.body_eval.specs.declared.register.Register.{Register}
use Rattle.body_eval.specs.declared.register.Register.TheVariants as register
use Rattle.body_eval.specs.inner.Registers.{HoldsLive}
use Rattle.monitor_run.specs.inner.Registers.{register_at}
use Rattle.monitor_run.proofs.EndLemmas.{is_printable}
use Rattle.monitor_run.proofs.event.add_line.Goals as goal

pub write_event-requires : goal.write_event-requires
write_event-requires c =
    let cells = c.args.store.now.cells in
    let own : c.index-registers-get.result ≡ register_at c.args.registers.now c.args.output.now.equation = c.index-registers-get.is ∙ get_or_default c.args.registers.now c.get.result c.index-registers-get.result register.Empty (omega arith) ∙ ap (register_at c.args.registers.now) c.get.ensures in
    is_printable cells c.index-registers-get.result (λ each. c.is_empty.ensures each ∙ ap not c.if-is_empty.false) (subst (λ (r : Register). HoldsLive cells r) (sym own) c.requires.live)
