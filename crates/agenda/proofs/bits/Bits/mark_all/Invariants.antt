use Rattle.std.proofs.Common.{◌≡◌, true, ◌++◌, drop, replicate}
use Rattle.agenda.proofs.bits.Bits.mark_all.Given as goal

abbrev pub invariant-loop-place : goal.invariant-loop-place
invariant-loop-place l = l.self ≡ replicate l.place true ++ drop l.place l.fn.self
