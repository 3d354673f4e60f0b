-- A question why an output has an event: what is asked, and how its answer ends the program.
use Rattle.std.specs.Prelude.{◌≡◌, ℕ, List, []}
use Rattle.command_words.specs.declared.command.Why.{Why}
use Rattle.flat_core.specs.System.{System}
use Rattle.slice_text.specs.Text.{IsOutputCalled}
use Rattle.syntax_tree.specs.Tree as tree
use Rattle.trace_why.specs.Meant.{MeansBy}
use Rattle.trace_why.specs.declared.ending.WhyEnding.{WhyEnding}
use Rattle.trace_why.specs.declared.ending.WhyEnding.TheVariants as answer
use Rattle.trace_why.specs.declared.question.Question.{Question}
use Rattle.tsl_world.specs.Seen.{Seen}
use Rattle.tsl_world.specs.declared.outside.Slot.TheVariants.{Trace}
use Rattle.tessla_cli.specs.Asked.{why_options}
use Rattle.tessla_cli.specs.declared.ending.Ending.{Ending}
use Rattle.tessla_cli.specs.declared.ending.Ending.TheVariants as ending
use Rattle.tessla_cli.specs.Running.{OfSource}

-- the question of the output of this number at the time of the words
abbrev pub question_of : Why → ℕ → Question
question_of w k = record { output = k; time = w.time }

-- A fact about a question: the specification is accepted, and the output is there.
abbrev pub OfWhy : Why → Seen → (List tree.Item → System → Question → Type 0) → Type 0
OfWhy w x P = OfSource x (λ items s. (k : ℕ) × IsOutputCalled s w.output k × P items s (question_of w k))

-- a fact about an answer that has its cause in what was taken of the trace
abbrev pub OfAnswer : Why → Seen → (WhyEnding → Type 0) → Type 0
OfAnswer w x P =
    OfWhy w x (λ items s q. (by : WhyEnding) × MeansBy items s (why_options w) q (x.taken Trace) (x.ended Trace) by × P by)

-- the ending of the program where a question is answered so
abbrev pub answered : Why → WhyEnding → Ending
answered w (answer.Text text) = ending.Done
answered w answer.NoEvent = ending.NoEvent w.output w.time
answered w (answer.Refused fault) = ending.Trace fault
answered w (answer.Fault time kind place) = ending.Fault time kind place
answered w (answer.Limit count time) = ending.Limit count time

-- what is written then: the derivation, or nothing
abbrev pub answer_text : WhyEnding → List ℕ
answer_text (answer.Text text) = text
answer_text by = []
