use Rattle.std.proofs.Common.{◌≡◌, ℕ, take}
use Rattle.flat_core.specs.Members.{is_in}
use Rattle.trace_reader.specs.Reading.{is_among}
use Rattle.trace_reader.proofs.seen.set_of.Given as goal

-- the inputs so far
abbrev pub invariant-loop-input : goal.invariant-loop-input
invariant-loop-input l = (i : ℕ) → is_in l.set i ≡ is_among (take l.input-index l.seen) i
