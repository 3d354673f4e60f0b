use Rattle.std.proofs.Common.{◌<◌, ℕ, suc, length}
use Rattle.event_why.specs.Check.{IsUsed}
use Rattle.event_why.proofs.used.first_unused.Given as goal

abbrev pub invariant-loop-k : goal.invariant-loop-k
invariant-loop-k l = (j : ℕ) → j < l.k → suc j < length l.steps → IsUsed l.steps j
