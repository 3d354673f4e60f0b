use Rattle.std.proofs.Common.{sym, ap, ◌∙◌}
use Rattle.std.specs.Option.{option_or}
use Rattle.std.specs.Prelude.{is_some}
use Rattle.monitor_run.specs.inner.Registers.{register_at}
use Rattle.monitor_run.specs.inner.Shown.{held_at, held_by}
use Rattle.monitor_run.proofs.CaseLemmas.{first_taken, is_blank, is_there}
use Rattle.monitor_run.proofs.hand.merged.Goals as goal

pub returns-then-is_empty-clause-handed : goal.returns-then-is_empty-clause-handed
returns-then-is_empty-clause-handed c =
    let none = ap held_by (sym c.register.ensures) ∙ is_blank c.register.result.now c.is_empty.result c.is_empty.ensures c.if-is_empty.true in
    sym (ap (λ h. option_or h (held_at c.args.registers.now c.args.b)) none)

pub returns-else-is_empty-clause-handed : goal.returns-else-is_empty-clause-handed
returns-else-is_empty-clause-handed c =
    first_taken (register_at c.args.registers.now c.args.a) (register_at c.args.registers.now c.args.b)
    (ap (λ r. is_some (held_by r)) (sym c.register.ensures) ∙ is_there c.register.result.now c.is_empty.result c.is_empty.ensures c.if-is_empty.false)
