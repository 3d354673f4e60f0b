-- A question asked of lines.
use Rattle.std.specs.Prelude.{◌≡◌, ℕ, ◌<◌, ◌≤◌, Bool, false, List, None, Option, Some, slice_get}
use Rattle.event_why.specs.Explained.{Has}
use Rattle.flat_core.specs.Case.{Streams}
use Rattle.flat_core.specs.declared.equation.Output.{Output}
use Rattle.flat_core.specs.Fault.{is_faulty}
use Rattle.flat_core.specs.Line.{Line, inputs_of}
use Rattle.flat_core.specs.Solution.{Solves}
use Rattle.flat_core.specs.System.{System}
use Rattle.tsl_value.specs.View.{View}
use Rattle.trace_reader.specs.inner.Reader.{AwaitsMore, Reader}
use Rattle.trace_reader.specs.inner.Reads.{Reads}
use Rattle.trace_reader.specs.Reading.{reading}
use Rattle.trace_why.specs.declared.ending.WhyEnding.{WhyEnding}
use Rattle.trace_why.specs.declared.ending.WhyEnding.TheVariants as ending
use Rattle.trace_why.specs.declared.question.Question.{Question}
use Rattle.trace_why.specs.Text.{IsDerivationText}

module _ (s : System) (lines : List Line) where
  -- some streams solve the system beyond a time, and there is no root fault up to it
  pub record IsCalm (time : ℕ) : Type 0 where
    pub bound : ℕ
    pub beyond : time < bound
    pub streams : Streams
    pub solves : Solves s (inputs_of lines) bound streams
    pub sound : (u : ℕ) → u ≤ time → is_faulty s (inputs_of lines) streams u ≡ false

  module _ (q : Question) where
    -- what the output has at the time, in all streams that solve the system beyond it
    pub record HasThere (x : Option View) : Type 0 where
      pub output : Output
      pub is_output : slice_get s.outputs q.output ≡ Some output
      pub has : Has s (inputs_of lines) q.time output.equation x

    -- the answer where there is no root fault up to the time
    abbrev pub IsTold : WhyEnding → Type 0
    IsTold (ending.Text text) = (v : View) × IsDerivationText s lines q v text × HasThere (Some v)
    IsTold ending.NoEvent = HasThere None
    IsTold by = ⊥

-- All lines of the bytes that were fed are gathered, and the reader has given them. It awaits more where the trace goes on.
pub record HasGathered (r : Reader) (s : System) (strict : Bool) (limit : ℕ) (bytes : List ℕ) (ended : Bool) (lines : List Line)
    : Type 0 where
  pub reads : Reads r s strict limit bytes lines ended
  pub all : lines ≡ (reading s strict limit bytes ended).lines
  pub awaits : ended ≡ false → (reading s strict limit bytes ended).refused ≡ None → AwaitsMore r
