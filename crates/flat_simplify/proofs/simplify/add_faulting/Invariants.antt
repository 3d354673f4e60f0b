use Rattle.flat_simplify.proofs.Making.{HasFaulting}
use Rattle.flat_simplify.proofs.simplify.add_faulting.Given as goal

abbrev pub invariant-loop-number : goal.invariant-loop-number
invariant-loop-number l = HasFaulting l.flat l.fn.ids.items l.ids.items l.number
