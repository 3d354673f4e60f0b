-- How a question stands where a run over the same bytes has come to something.
use Rattle.std.specs.Prelude.{◌≡◌, ℕ, ◌<◌, max, Bool, if◌then◌else◌, nat_le, nat_lt, List, None, Option, Some}
use Rattle.flat_core.specs.Line.{Line}
use Rattle.flat_core.specs.System.{System}
use Rattle.trace_monitor.specs.declared.ending.RunEnding.{RunEnding}
use Rattle.trace_monitor.specs.declared.ending.RunEnding.TheVariants as run
use Rattle.trace_monitor.specs.declared.options.Options.{Options}
use Rattle.trace_monitor.specs.Due.{bound_in, lines_in}
use Rattle.trace_monitor.specs.Next.{IsNext}
use Rattle.trace_why.specs.declared.course.Course.{Course}
use Rattle.trace_why.specs.declared.course.Course.TheVariants as course
use Rattle.trace_why.specs.declared.ending.WhyEnding.{WhyEnding}
use Rattle.trace_why.specs.declared.ending.WhyEnding.TheVariants as ending
use Rattle.trace_why.specs.declared.question.Question.{Question}
use Rattle.trace_why.specs.Answer.{AnswersBy}
use Rattle.trace_why.specs.Ending.{IsAwaited, IsQuietFor}

-- a run over these bytes, which have these lines, has come to this
pub record HasRun (s : System) (o : Options) (bytes : List ℕ) (ended : Bool) (lines : List Line) (by : Option RunEnding) : Type 0 where
  pub lines_are : lines ≡ lines_in s o bytes ended
  pub next : IsNext s o bytes ended by

module _ (s : System) (o : Options) (q : Question) (bytes : List ℕ) (ended : Bool) where
  -- the time is closed, and there is no fault up to it and no instant too many
  pub record IsClosedFor : Type 0 where
    pub closed : q.time < bound_in s o bytes ended
    pub quiet : IsQuietFor s o q bytes ended

  abbrev pub IsCourse : Course → Type 0
  IsCourse course.Open = IsAwaited s o q bytes ended
  IsCourse course.Closed = IsClosedFor
  IsCourse (course.Ended by) = AnswersBy s o q bytes ended by

-- Whether the end of a run comes in time for a question: where the trace has ended, its time is not closed, a line is refused before it is,
-- or an instant up to it ends the run.
abbrev pub comes_in_time : RunEnding → (last until asked : ℕ) → Bool
comes_in_time run.Done last until asked = nat_lt (max last until) asked
comes_in_time (run.Trace fault) last until asked = nat_le last asked
comes_in_time (run.Fault time kind place) last until asked = nat_le time asked
comes_in_time (run.Limit count time) last until asked = nat_le time asked

-- the ending of the question then
abbrev pub ending_of : RunEnding → WhyEnding
ending_of run.Done = ending.NoEvent
ending_of (run.Trace fault) = ending.Refused fault
ending_of (run.Fault time kind place) = ending.Fault time kind place
ending_of (run.Limit count time) = ending.Limit count time

abbrev pub course_after : Option RunEnding → (last until asked : ℕ) → Course
course_after None last until asked = if nat_le last asked then course.Open else course.Closed
course_after (Some by) last until asked = if comes_in_time by last until asked then course.Ended (ending_of by) else course.Closed
