-- What the system that is run says of a trace, the specification itself says.
use Rattle.std.proofs.Common.{◌≡◌, ℕ, Bool, List, ◌∙◌, ap, sym, subst}
use Rattle.lift_func.specs.declared.fault.FaultKind.{FaultKind}
use Rattle.flat_core.specs.Case.{Streams}
use Rattle.flat_core.specs.Ending.{EndsInFault}
use Rattle.flat_core.specs.Line.{Line, inputs_of}
use Rattle.flat_core.specs.System.{System}
use Rattle.flat_core.specs.Text.{due_text}
use Rattle.flat_meaning.proofs.OneText.{one_text}
use Rattle.compiled_meaning.specs.Compiled.{Compiles}
use Rattle.spec_meaning.specs.Inputs.{inputs_alone}
use Rattle.compiled_meaning.specs.inner.Laws.{SaysWhatIsMeant}
use Rattle.compiled_meaning.specs.Meant.{FaultTimeIsMeant, IsFaultNamed, LimitIsMeant, QuietIsMeant}
use Rattle.compiled_meaning.proofs.Inputs.{inputs_are_declared}
use Rattle.compiled_meaning.proofs.Meaning.{compiled_says_what_is_meant}
use Rattle.compiled_meaning.proofs.Readiness.{compiled_is_ready}
use Rattle.spec_meaning.specs.Due.{IsDueText}
use Rattle.syntax_tree.specs.Tree as tree
use Rattle.trace_monitor.specs.declared.ending.RunEnding.{RunEnding}
use Rattle.trace_monitor.specs.declared.ending.RunEnding.TheVariants as run
use Rattle.trace_monitor.specs.declared.options.Options.{Options}
use Rattle.trace_monitor.specs.Due.{IsDue, SolvesClosed, bound_in, lines_in, refused_in}
use Rattle.trace_monitor.specs.Ending.{IsQuiet}
use Rattle.trace_monitor.specs.Next.{IsPlaceOf, EndsBy}
use Rattle.trace_reader.specs.Closed.{closed_below}
use Rattle.trace_reader.specs.Reading.{Reading, reading}
use Rattle.trace_reader.proofs.InputLemmas.{others_leave_reading}
use Rattle.tsl_value.specs.declared.place.Place.{Place}
use Rattle.trace_run.specs.Meant.{EndsAsMeant, IsDueAsMeant, IsQuietAsMeant, bound_meant, lines_meant, refused_meant}
use Rattle.trace_run.proofs.Dues.{due_of}
use Rattle.trace_run.proofs.TypedLines.{typed_read}

-- for a source that is compiled to this system
module _ (source : List ℕ) (items : List tree.Item) (s : System) (o : Options) (c : Compiles source items s) where
  module _ (bytes : List ℕ) (ended : Bool) where
    abbrev lines : List Line
    lines = lines_in s o bytes ended

    abbrev bound : ℕ
    bound = bound_in s o bytes ended

    -- ---- by the inputs that the items declare the trace reads as by those of the system
    read_alike : reading s o.strict o.bytes bytes ended ≡ reading (inputs_alone items) o.strict o.bytes bytes ended
    read_alike =
        let declared = inputs_are_declared source items s c in
        others_leave_reading (inputs_alone items) s declared.others o.strict o.bytes bytes ended declared.equations_are declared.no_inputs

    pub refused_alike : refused_in s o bytes ended ≡ refused_meant items o bytes ended
    refused_alike = ap (λ (r : Reading). r.refused) read_alike

    -- what holds of the lines and of the bound
    pub to_meant : (P : List Line → ℕ → Type 0) → P lines bound → P (lines_meant items o bytes ended) (bound_meant items o bytes ended)
    to_meant P holds = subst (λ (r : Reading). P r.lines (closed_below r o.until ended)) read_alike holds

    pub of_meant : (P : List Line → ℕ → Type 0) → P (lines_meant items o bytes ended) (bound_meant items o bytes ended) → P lines bound
    of_meant P holds = subst (λ (r : Reading). P r.lines (closed_below r o.until ended)) (sym read_alike) holds

    -- ---- what the system says
    says : (z : Streams) → SolvesClosed s o bytes ended z → SaysWhatIsMeant items s lines bound o.instants z
    says z zs = compiled_says_what_is_meant source items s lines bound o.instants z c (typed_read s o bytes ended) zs

    pub due_meant : (text : List ℕ) → IsDue s o bytes ended text → IsDueAsMeant items o bytes ended text
    due_meant text due =
        let (z, zs) = due.solved in
        to_meant (λ l b. IsDueText items l b o.instants text)
        (subst (λ (t : List ℕ). IsDueText items lines bound o.instants t) (sym (due.is z zs)) (says z zs).text)

    -- and the text that is meant is due: one text is, by the system and by the meaning
    pub due_by_meaning : (text : List ℕ) → IsDueAsMeant items o bytes ended text → IsDue s o bytes ended text
    due_by_meaning text meant =
        let ready = compiled_is_ready source items s c in
        let (z, zs) = ready.exists (inputs_of lines) bound in
        let due = due_of s o ready bytes ended z zs in
        let told = due_text s lines z bound o.instants in
        subst (λ (l : List ℕ). IsDue s o bytes ended l)
        (one_text items (lines_meant items o bytes ended) (bound_meant items o bytes ended) o.instants told text (due_meant told due) meant) due

    pub quiet_meant : IsQuiet s o bytes ended → IsQuietAsMeant items o bytes ended
    quiet_meant quiet = let (z, zs) = quiet.solved in to_meant (λ l b. QuietIsMeant items l b o.instants) ((says z zs).quiet (quiet.each z zs))

    fault_meant : (t i : ℕ) (kind : FaultKind) (place : Place) (z : Streams) → SolvesClosed s o bytes ended z → IsPlaceOf s i place → EndsInFault s lines z bound o.instants t i kind
        → FaultTimeIsMeant items lines bound o.instants t × IsFaultNamed s lines bound t place kind
    fault_meant t i kind place z zs at fault = (
      (says z zs).fault t i kind fault,
      subst (λ (p : Place). IsFaultNamed s lines bound t p kind) at.place_is ((says z zs).named t i kind at.at at.is fault),
    )

    pub ends_meant : (how : RunEnding) → EndsBy s o bytes ended how → EndsAsMeant items s o bytes ended how
    ends_meant run.Done cause = (cause.0, sym refused_alike ∙ cause.1, quiet_meant cause.2)
    ends_meant (run.Trace fault) cause = (sym refused_alike ∙ cause.0, quiet_meant cause.1)
    ends_meant (run.Fault time kind place) (i, at, faulted) =
        let (z, zs) = faulted.solved in
        to_meant (λ l b. FaultTimeIsMeant items l b o.instants time × IsFaultNamed s l b time place kind) (fault_meant time i kind place z zs at (faulted.each z zs))
    ends_meant (run.Limit count time) cause =
        let (z, zs) = cause.1.solved in (cause.0, to_meant (λ l b. LimitIsMeant items l b o.instants time) ((says z zs).limited time (cause.1.each z zs)))
