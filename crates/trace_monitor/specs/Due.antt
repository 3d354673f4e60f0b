-- The text that is due for the bytes of a trace.
use Rattle.std.specs.Prelude.{◌≡◌, ℕ, Bool, List, Option}
use Rattle.flat_core.specs.Case.{Streams}
use Rattle.flat_core.specs.Line.{Line, inputs_of}
use Rattle.flat_core.specs.Solution.{Solves}
use Rattle.flat_core.specs.System.{System}
use Rattle.trace_reader.specs.Closed.{closed_below}
use Rattle.trace_reader.specs.Reading.{reading}
use Rattle.trace_reader.specs.declared.fault.TraceFault.{TraceFault}
use Rattle.flat_core.specs.Text.{due_text}
use Rattle.trace_monitor.specs.declared.options.Options.{Options}

-- the lines that the bytes have, the refusal after them, and the bound below which times are closed
abbrev pub lines_in : System → Options → List ℕ → Bool → List Line
lines_in s o bytes ended = (reading s o.strict o.bytes bytes ended).lines

abbrev pub refused_in : System → Options → List ℕ → Bool → Option TraceFault
refused_in s o bytes ended = (reading s o.strict o.bytes bytes ended).refused

abbrev pub bound_in : System → Options → List ℕ → Bool → ℕ
bound_in s o bytes ended = closed_below (reading s o.strict o.bytes bytes ended) o.until ended

-- streams that solve the system at the closed times
abbrev pub SolvesClosed : System → Options → List ℕ → Bool → Streams → Type 0
SolvesClosed s o bytes ended z = Solves s (inputs_of (lines_in s o bytes ended)) (bound_in s o bytes ended) z

-- The text is due: there are streams that solve the system at the closed times, and whichever they are, it is the text of their
-- output events at the closed times below the fault time and within the limit of instants.
pub record IsDue (s : System) (o : Options) (bytes : List ℕ) (ended : Bool) (text : List ℕ) : Type 0 where
  pub solved : (z : Streams) × SolvesClosed s o bytes ended z
  pub is : (z : Streams)
      → SolvesClosed s o bytes ended z
      → text ≡ due_text s (lines_in s o bytes ended) z (bound_in s o bytes ended) o.instants
