use Rattle.std.proofs.Common.{◌≡◌}
use Rattle.trigger_formulas.proofs.triggers.Triggers.make_all.Given as goal

abbrev pub invariant-firsts : goal.invariant-firsts
invariant-firsts l = l.self ≡ l.initial.self
