-- Laws of answers.
use Rattle.std.specs.Prelude.{◌≡◌, ℕ, Bool, List, Option, Some}
use Rattle.compiled_meaning.specs.Compiled.{Compiles}
use Rattle.flat_core.specs.System.{System}
use Rattle.syntax_tree.specs.Tree as tree
use Rattle.trace_monitor.specs.declared.options.Options.{Options}
use Rattle.trace_why.specs.Answer.{AnswersBy, IsAnswerFor}
use Rattle.trace_why.specs.declared.ending.WhyEnding.{WhyEnding}
use Rattle.trace_why.specs.declared.ending.WhyEnding.TheVariants as ending
use Rattle.trace_why.specs.declared.question.Question.{Question}
use Rattle.trace_why.specs.Ending.{IsAwaited}
use Rattle.trace_why.specs.Meant.{IsAwaitedThere, MeansBy}

-- the same, but for the text of a derivation: an event may have several
abbrev pub AreAlike : Option WhyEnding → Option WhyEnding → Type 0
AreAlike (Some (ending.Text text)) (Some (ending.Text other)) = Unit {0}
AreAlike answer other = answer ≡ other

-- what is answered at some bytes is one answer
abbrev pub OneAnswer : Type 0
OneAnswer =
    (s : System) (o : Options) (q : Question) (bytes : List ℕ) (ended : Bool) (answer other : Option WhyEnding)
    → IsAnswerFor s o q bytes ended answer
    → IsAnswerFor s o q bytes ended other
    → AreAlike answer other

-- for a source that is compiled to this system the specification itself says of an ending what the system does
abbrev pub AnswersAsMeant : Type 0
AnswersAsMeant =
    (source : List ℕ) (items : List tree.Item) (s : System) (o : Options) (q : Question) (bytes : List ℕ) (ended : Bool) (by : WhyEnding)
    → Compiles source items s
    → AnswersBy s o q bytes ended by
    → MeansBy items s o q bytes ended by

-- and where the question has none yet
abbrev pub AwaitsAsMeant : Type 0
AwaitsAsMeant =
    (source : List ℕ) (items : List tree.Item) (s : System) (o : Options) (q : Question) (bytes : List ℕ) (ended : Bool)
    → Compiles source items s
    → IsAwaited s o q bytes ended
    → IsAwaitedThere items s o q bytes ended

-- the kinds of endings
pub data Kind : Type 0 where
  derived : Kind
  eventless : Kind
  refused : Kind
  faulted : Kind
  limited : Kind

abbrev pub kind_of : WhyEnding → Kind
kind_of (ending.Text text) = derived
kind_of ending.NoEvent = eventless
kind_of (ending.Refused fault) = refused
kind_of (ending.Fault time kind place) = faulted
kind_of (ending.Limit count time) = limited

-- what a specification says of a question at some bytes is of one kind, whatever the items and the system are
abbrev pub OneKindIsMeant : Type 0
OneKindIsMeant =
    (items : List tree.Item) (s : System) (o : Options) (q : Question) (bytes : List ℕ) (ended : Bool) (by other : WhyEnding)
    → MeansBy items s o q bytes ended by
    → MeansBy items s o q bytes ended other
    → kind_of by ≡ kind_of other
