use Rattle.std.proofs.Common.{◌∙◌}
use Rattle.type_check.proofs.SlotLemmas.{locals_turn}
use Rattle.type_check.proofs.slot.add_locals.Goals as goal

pub loop-local-preserved : goal.loop-local-preserved
loop-local-preserved c = c.in_ok-push.ensures.items ∙ locals_turn c.args.number c.loop-local.local c.loop-local.slots.items c.args.slots.now.items c.loop-local.invariant
