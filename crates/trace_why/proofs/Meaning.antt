-- What the system answers to a question, the specification itself says.
use Rattle.std.proofs.Common.{ℕ, Bool, List, refl, subst}
use Rattle.compiled_meaning.specs.Compiled.{Compiles}
use Rattle.compiled_meaning.specs.inner.Laws.{SaysWhatIsMeant}
use Rattle.compiled_meaning.specs.Meant.{FaultTimeIsMeant, IsFaultNamed}
use Rattle.compiled_meaning.proofs.Meaning.{compiled_says_what_is_meant}
use Rattle.flat_core.specs.Case.{Streams}
use Rattle.flat_core.specs.Line.{Line, inputs_of}
use Rattle.flat_core.specs.Solution.{Solves}
use Rattle.flat_core.specs.System.{System}
use Rattle.lift_func.specs.declared.fault.FaultKind.{FaultKind}
use Rattle.syntax_tree.specs.Tree as tree
use Rattle.trace_monitor.specs.declared.options.Options.{Options}
use Rattle.trace_monitor.specs.Due.{lines_in}
use Rattle.trace_monitor.specs.Next.{IsPlaceOf}
use Rattle.tsl_value.specs.declared.place.Place.{Place}
use Rattle.trace_why.specs.Answer.{AnswersBy}
use Rattle.trace_why.specs.declared.ending.WhyEnding.{WhyEnding}
use Rattle.trace_why.specs.declared.ending.WhyEnding.TheVariants as ending
use Rattle.trace_why.specs.declared.question.Question.{Question}
use Rattle.trace_why.specs.Ending.{IsAwaited, IsFaultedFor, IsQuietFor, counted_below}
use Rattle.trace_why.specs.inner.Laws.{AnswersAsMeant, AwaitsAsMeant}
use Rattle.trace_why.specs.Meant.{IsAwaitedThere, IsQuietThere, MeansBy}
use Rattle.trace_why.proofs.Concluding.{typed_lines}

-- for a source that is compiled to this system
module _ (source : List ℕ) (items : List tree.Item) (s : System) (o : Options) (q : Question) (bytes : List ℕ) (ended : Bool) (c : Compiles source items s) where
  abbrev lines : List Line
  lines = lines_in s o bytes ended

  abbrev low : ℕ
  low = counted_below s o q bytes ended

  says : (z : Streams) → Solves s (inputs_of lines) low z → SaysWhatIsMeant items s lines low o.instants z
  says z zs = compiled_says_what_is_meant source items s lines low o.instants z c (typed_lines s o bytes ended lines refl) zs

  quiet_meant : IsQuietFor s o q bytes ended → IsQuietThere items s o q bytes ended
  quiet_meant quiet = let (z, zs) = quiet.solved in (says z zs).quiet (quiet.each z zs)

  fault_meant : (t i : ℕ) (kind : FaultKind) (place : Place) → IsPlaceOf s i place → IsFaultedFor s o q bytes ended t i kind
      → FaultTimeIsMeant items lines low o.instants t × IsFaultNamed s lines low t place kind
  fault_meant t i kind place at faulted =
      let (z, zs) = faulted.solved in
      let fault = faulted.each z zs in (
        (says z zs).fault t i kind fault,
        subst (λ (p : Place). IsFaultNamed s lines low t p kind) at.place_is ((says z zs).named t i kind at.at at.is fault),
      )

  answers : (by : WhyEnding) → AnswersBy s o q bytes ended by → MeansBy items s o q bytes ended by
  answers (ending.Text text) (quiet, has) = (quiet_meant quiet, has)
  answers ending.NoEvent (read, quiet, none) = (read, quiet_meant quiet, none)
  answers (ending.Refused fault) (early, refused, quiet) = (early, refused, quiet_meant quiet)
  answers (ending.Fault time kind place) (i, at, faulted) = fault_meant time i kind place at faulted
  answers (ending.Limit count time) (is, limited) = let (z, zs) = limited.solved in (is, (says z zs).limited time (limited.each z zs))

  awaits : IsAwaited s o q bytes ended → IsAwaitedThere items s o q bytes ended
  awaits w = record { accepted = w.accepted; still_open = w.still_open; quiet = quiet_meant w.quiet }

pub answers_as_meant : AnswersAsMeant
answers_as_meant source items s o q bytes ended by c cause = answers source items s o q bytes ended c by cause

pub awaits_as_meant : AwaitsAsMeant
awaits_as_meant source items s o q bytes ended c w = awaits source items s o q bytes ended c w
