use Rattle.std.proofs.Common.{ap, map, sym, ◌∙◌}
use Rattle.flat_core.specs.inner.OpGroups.{counts}
use Rattle.monitor_run.specs.inner.Registers.{value_at}
use Rattle.monitor_run.proofs.case.put_lifted.Goals as goal

pub asked-requires-clause-typed : goal.asked-requires-clause-typed
asked-requires-clause-typed c =
    let cells = c.args.store.now.cells in
    let registers = c.args.registers.now in
    c.requires.typed (sym (c.do_count.ensures cells ∙ ap (λ xs. counts c.args.strict (map (value_at cells registers) xs)) c.ids.ensures) ∙ c.if-not-do_count.false)

pub evaluated-requires : goal.evaluated-requires
evaluated-requires c =
    let cells = c.args.store.now.cells in
    let registers = c.args.registers.now in
    c.requires.typed (sym (c.do_count.ensures cells ∙ ap (λ xs. counts c.args.strict (map (value_at cells registers) xs)) c.ids.ensures) ∙ c.if-not-do_count.false)

pub at_hand-requires : goal.at_hand-requires
at_hand-requires c =
    let cells = c.args.store.now.cells in
    let registers = c.args.registers.now in
    c.requires.typed (sym (c.do_count.ensures cells ∙ ap (λ xs. counts c.args.strict (map (value_at cells registers) xs)) c.ids.ensures) ∙ c.if-not-do_count.false)
