-- What is answered to a question after some bytes of a trace: nothing yet, or its ending.
use Rattle.std.specs.Prelude.{◌≡◌, ℕ, ◌≤◌, Bool, List, Option, None, Some}
use Rattle.flat_core.specs.System.{System}
use Rattle.tsl_value.specs.View.{View}
use Rattle.trace_monitor.specs.declared.options.Options.{Options}
use Rattle.trace_monitor.specs.Due.{bound_in, lines_in, refused_in}
use Rattle.trace_monitor.specs.Next.{IsPlaceOf}
use Rattle.trace_why.specs.declared.ending.WhyEnding.{WhyEnding}
use Rattle.trace_why.specs.declared.ending.WhyEnding.TheVariants as ending
use Rattle.trace_why.specs.declared.question.Question.{Question}
use Rattle.trace_why.specs.Ending.{HasDueEvent, InAllFor, IsAllRead, IsAwaited, IsFaultedFor, IsLimitedFor, IsQuietFor}
use Rattle.trace_why.specs.Text.{IsDerivationText}

module _ (s : System) (o : Options) (q : Question) (bytes : List ℕ) (ended : Bool) where
  -- the cause of an ending at these bytes of the trace
  abbrev pub AnswersBy : WhyEnding → Type 0
  AnswersBy (ending.Text text) =
      IsQuietFor s o q bytes ended
      × ((v : View) × IsDerivationText s (lines_in s o bytes ended) q v text
      × InAllFor s o q bytes ended (λ z. HasDueEvent s o q bytes ended z v))
  AnswersBy ending.NoEvent =
      IsAllRead s o q bytes ended
      × IsQuietFor s o q bytes ended
      × InAllFor s o q bytes ended (λ z. (v : View) → ¬ HasDueEvent s o q bytes ended z v)
  AnswersBy (ending.Refused fault) =
      (bound_in s o bytes ended ≤ q.time) × (refused_in s o bytes ended ≡ Some fault) × IsQuietFor s o q bytes ended
  AnswersBy (ending.Fault time kind place) = (i : ℕ) × IsPlaceOf s i place × IsFaultedFor s o q bytes ended time i kind
  AnswersBy (ending.Limit count time) = (count ≡ o.instants) × IsLimitedFor s o q bytes ended time

  -- what is answered at these bytes: the trace may be read further, or the question has its ending
  abbrev pub IsAnswerFor : Option WhyEnding → Type 0
  IsAnswerFor None = IsAwaited s o q bytes ended
  IsAnswerFor (Some by) = AnswersBy by
