use Rattle.std.proofs.Common.{◌≡◌, length}
use Rattle.trace_reader.specs.Form.{is_blank, without_front}
use Rattle.trace_reader.proofs.form.without_blanks_before.Given as goal

-- blanks alone were passed
abbrev pub invariant-loop-rest : goal.invariant-loop-rest
invariant-loop-rest l = without_front is_blank l.rest ≡ without_front is_blank l.bytes

abbrev pub decreases-loop-rest : goal.decreases-loop-rest
decreases-loop-rest l = length l.rest
