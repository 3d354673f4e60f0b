use Rattle.std.proofs.Common.{◌≡◌, ◌++◌}
use Rattle.type_check.specs.inner.Slots.{local_slots}
use Rattle.type_check.proofs.slot.add_locals.Given as goal

abbrev pub invariant-loop-local : goal.invariant-loop-local
invariant-loop-local l = l.slots.items ≡ l.initial.slots.items ++ local_slots l.number 0 l.local
