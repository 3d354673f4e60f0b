use Rattle.std.proofs.Common.{◌≡◌, length}
use Rattle.trace_reader.specs.Form.{is_blank, without_end}
use Rattle.trace_reader.proofs.form.without_blanks_after.Given as goal

-- blanks alone were dropped
abbrev pub invariant-loop-last : goal.invariant-loop-last
invariant-loop-last l = without_end is_blank l.rest ≡ without_end is_blank l.bytes

abbrev pub decreases-loop-last : goal.decreases-loop-last
decreases-loop-last l = length l.rest
