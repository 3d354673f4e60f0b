use Rattle.std.proofs.Common.{◌≤◌, ◌+◌, length}
use Rattle.trace_reader.specs.inner.Reader.{Passes}
use Rattle.trace_reader.proofs.unread.Unread.pass_skipped.Given as goal

-- so many lines were passed, each of a byte or more
abbrev pub invariant-loop-len : goal.invariant-loop-len
invariant-loop-len l = Passes l.ended l.fn.self l.lines l.self × (l.lines + length l.self ≤ length l.fn.self)

abbrev pub decreases-loop-len : goal.decreases-loop-len
decreases-loop-len l = length l.self
