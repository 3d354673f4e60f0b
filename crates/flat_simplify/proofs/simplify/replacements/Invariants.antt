use Rattle.flat_simplify.proofs.Making.{AreStanding}
use Rattle.flat_simplify.proofs.simplify.replacements.Given as goal

abbrev pub invariant-loop-step : goal.invariant-loop-step
invariant-loop-step l = AreStanding l.flat l.step-items l.replaced l.step-index
