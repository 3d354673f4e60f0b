use Rattle.equation_types.proofs.Equations.{FitBelow}
use Rattle.equation_types.proofs.equation.first_that_breaks.Given as goal

abbrev pub invariant-loop-number : goal.invariant-loop-number
invariant-loop-number l = FitBelow l.equations l.running l.number
