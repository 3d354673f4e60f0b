use Rattle.step_uses.proofs.RowLemmas.{IsEvery}
use Rattle.step_uses.proofs.uses.every.Given as goal

abbrev pub invariant-loop-number : goal.invariant-loop-number
invariant-loop-number l = IsEvery l.ids.items l.number
