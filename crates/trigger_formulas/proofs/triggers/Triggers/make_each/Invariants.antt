use Rattle.std.proofs.Common.{◌≡◌}
use Rattle.trigger_formulas.proofs.triggers.Triggers.make_each.Given as goal

abbrev pub invariant-seconds : goal.invariant-seconds
invariant-seconds l = l.self ≡ l.initial.self
