use Rattle.std.proofs.Common.{◌≡◌}
use Rattle.trigger_formulas.proofs.triggers.Triggers.make_questions.Given as goal

abbrev pub invariant-questions : goal.invariant-questions
invariant-questions l = l.self ≡ l.initial.self
