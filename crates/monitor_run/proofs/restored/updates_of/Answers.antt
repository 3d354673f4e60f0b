use Rattle.std.proofs.Common.{sym, ap, ◌∙◌}
use Rattle.flat_core.specs.Updates.{is_running_update}
use Rattle.register_code.proofs.Gathered.{listed_with, listed_without}
use Rattle.monitor_run.proofs.restored.updates_of.Goals as goal
use Rattle.monitor_run.proofs.restored.updates_of.Goals.{then-is_running_update+in_ok-push, else-is_running_update}

pub loop-number-preserved : goal.loop-number-preserved
loop-number-preserved c = elim c.if-is_running_update.branch [
  | then-is_running_update+in_ok-push w ↦
      ap (λ v. v.items) w.ids-is
      ∙ listed_with (is_running_update c.args.flat.now) c.loop-number.number c.new-id.result c.loop-number.ids.items w.push.new.self.items c.new-id.ensures
      (sym c.is_running_update.ensures ∙ w.if-is_running_update.true) c.loop-number.invariant w.in_ok-push.ensures.items
  | else-is_running_update w ↦
      ap (λ v. v.items) w.ids-is
      ∙ listed_without (is_running_update c.args.flat.now) c.loop-number.number c.new-id.result c.loop-number.ids.items c.new-id.ensures
      (sym c.is_running_update.ensures ∙ w.if-is_running_update.false) c.loop-number.invariant
]
