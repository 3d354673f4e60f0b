use Rattle.std.proofs.Common.{◌≡◌, take}
use Rattle.trace_reader.proofs.seen.listed.Given as goal

-- the inputs so far
abbrev pub invariant-loop-place : goal.invariant-loop-place
invariant-loop-place l = l.seen.items ≡ take l.place l.set
