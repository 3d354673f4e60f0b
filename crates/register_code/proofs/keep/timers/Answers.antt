use Rattle.std.proofs.Common.{sym, ap, ◌∙◌}
use Rattle.flat_core.specs.Kept.{is_timer}
use Rattle.register_code.proofs.Gathered.{listed_with, listed_without}
use Rattle.register_code.proofs.keep.timers.Goals as goal
use Rattle.register_code.proofs.keep.timers.Goals.{then-is_timer+in_ok-push, else-is_timer}

pub loop-number-preserved : goal.loop-number-preserved
loop-number-preserved c = elim c.if-is_timer.branch [
  | then-is_timer+in_ok-push w ↦
      ap (λ v. v.items) w.ids-is
      ∙ listed_with (is_timer c.args.flat.now) c.loop-number.number c.new-id.result c.loop-number.ids.items w.push.new.self.items c.new-id.ensures (sym c.is_timer.ensures ∙ w.if-is_timer.true) c.loop-number.invariant w.in_ok-push.ensures.items
  | else-is_timer w ↦
      ap (λ v. v.items) w.ids-is
      ∙ listed_without (is_timer c.args.flat.now) c.loop-number.number c.new-id.result c.loop-number.ids.items c.new-id.ensures (sym c.is_timer.ensures ∙ w.if-is_timer.false) c.loop-number.invariant
]
