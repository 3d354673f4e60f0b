use Rattle.std.proofs.Common.{◌≡◌, ◌++◌, take}
use Rattle.trace_reader.proofs.plain.after.Given as goal

-- the bytes of the front so far, and what stands after them
abbrev pub invariant-loop-byte : goal.invariant-loop-byte
invariant-loop-byte l = l.bytes ≡ take l.byte-index l.front ++ l.rest
