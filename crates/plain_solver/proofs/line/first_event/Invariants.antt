use Rattle.std.proofs.Common.{◌≡◌, ℕ, drop}
use Rattle.flat_core.specs.Line.{is_line_on}
use Rattle.plain_solver.proofs.line.first_event.Given as goal

abbrev pub invariant-loop-line : goal.invariant-loop-line
invariant-loop-line l = (u : ℕ) → is_line_on u (drop l.line-index l.lines) ≡ is_line_on u l.lines
