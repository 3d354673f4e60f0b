use Rattle.std.proofs.Common.{length}
use Rattle.trace_reader.proofs.PlainLemmas.{HasRead}
use Rattle.trace_reader.proofs.plain.number_before.Given as goal

-- the digits so far
abbrev pub invariant-loop-digit : goal.invariant-loop-digit
invariant-loop-digit l = HasRead l.front l.number l.rest

abbrev pub decreases-loop-digit : goal.decreases-loop-digit
decreases-loop-digit l = length l.rest
