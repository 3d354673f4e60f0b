-- The text of a derivation of an output's event.
use Rattle.std.specs.Prelude.{◌≡◌, List, ℕ, Some, slice_get}
use Rattle.event_why.specs.declared.fact.Why.{Why}
use Rattle.event_why.specs.Explained.{IsAccepted}
use Rattle.event_why.specs.Text.{steps_text}
use Rattle.flat_core.specs.declared.equation.Output.{Output}
use Rattle.flat_core.specs.Line.{Line, inputs_of}
use Rattle.flat_core.specs.System.{System}
use Rattle.tsl_value.specs.View.{View}
use Rattle.trace_why.specs.declared.question.Question.{Question}

-- The text is that of a derivation which the rules accept for the events of these lines, and whose last fact is this event of the output at
-- the time.
pub record IsDerivationText (s : System) (lines : List Line) (q : Question) (v : View) (text : List ℕ) : Type 0 where
  pub output : Output
  pub is_output : slice_get s.outputs q.output ≡ Some output
  pub why : Why
  pub accepted : IsAccepted s (inputs_of lines) q.output output.equation q.time why v
  pub text_is : text ≡ steps_text s 0 why.steps.items
