use Rattle.std.proofs.Common.{◌≡◌, length}
use Rattle.trace_reader.specs.Form.{is_end_blank, without_end}
use Rattle.trace_reader.proofs.form.without_end_blanks.Given as goal

-- what is a blank at an end alone was dropped
abbrev pub invariant-loop-last : goal.invariant-loop-last
invariant-loop-last l = without_end is_end_blank l.rest ≡ without_end is_end_blank l.line

abbrev pub decreases-loop-last : goal.decreases-loop-last
decreases-loop-last l = length l.rest
