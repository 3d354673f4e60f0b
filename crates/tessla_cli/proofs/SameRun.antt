-- Code that is read of a file which was written of a specification means what that does.
use Rattle.std.proofs.Common.{◌≡◌, ℕ, Bool, List, sym, ◌∙◌, ap, subst}
use Rattle.std.specs.Prelude.{IsTrue}
use Rattle.alike_systems.specs.Alike.{AreAlike}
use Rattle.alike_systems.proofs.Reading.{alike_read_alike}
use Rattle.alike_systems.proofs.Saying.{alike_either_way, alike_say_the_same, solves_too}
use Rattle.compiled_code.specs.Spelled.{IsLikeCode}
use Rattle.compiled_code.proofs.OneSpelling.{one_spelling_is_alike}
use Rattle.flat_core.specs.Case.{Streams}
use Rattle.flat_core.specs.Ending.{EndsAtBound, EndsAtLimit, EndsInFault}
use Rattle.flat_core.specs.Line.{Line, inputs_of}
use Rattle.flat_core.specs.Solution.{Solves}
use Rattle.flat_core.specs.System.{System, runs}
use Rattle.flat_core.specs.Text.{due_text}
use Rattle.tessla_cli.specs.inner.FileLaws.{FilesRunAsMeant}
use Rattle.trace_run.proofs.Meaning.{due_meant, ends_meant}
use Rattle.trace_monitor.specs.declared.ending.RunEnding.{RunEnding}
use Rattle.trace_monitor.specs.declared.ending.RunEnding.TheVariants as run
use Rattle.trace_monitor.specs.declared.options.Options.{Options}
use Rattle.trace_monitor.specs.Due.{IsDue, SolvesClosed, bound_in, lines_in, refused_in}
use Rattle.trace_monitor.specs.Ending.{InAll, IsQuiet}
use Rattle.trace_monitor.specs.Next.{EndsBy, IsPlaceOf}
use Rattle.trace_reader.specs.Closed.{closed_below}
use Rattle.trace_reader.specs.Reading.{Reading, reading}
use Rattle.tsl_value.specs.declared.place.Place.{Place}

-- what streams solve by one of two systems that are alike, they solve by the other
solves_other : (s u : System) → AreAlike s u → (o : Options) (bytes : List ℕ) (ended : Bool) (z : Streams) → SolvesClosed s o bytes ended z → SolvesClosed u o bytes ended z
solves_other s u alike o bytes ended z zs =
    solves_too s u (inputs_of (lines_in u o bytes ended)) (bound_in u o bytes ended) z alike
    (subst (λ (r : Reading). Solves s (inputs_of r.lines) (closed_below r o.until ended) z) (alike_read_alike s u o.strict o.bytes bytes ended alike) zs)

module _ (s u : System) (alike : AreAlike s u) (o : Options) (bytes : List ℕ) (ended : Bool) where
  read_same : reading s o.strict o.bytes bytes ended ≡ reading u o.strict o.bytes bytes ended
  read_same = alike_read_alike s u o.strict o.bytes bytes ended alike

  -- what holds of the lines and of the bound
  to_other : (P : List Line → ℕ → Type 0) → P (lines_in s o bytes ended) (bound_in s o bytes ended) → P (lines_in u o bytes ended) (bound_in u o bytes ended)
  to_other P holds = subst (λ (r : Reading). P r.lines (closed_below r o.until ended)) read_same holds

  same_refused : refused_in s o bytes ended ≡ refused_in u o bytes ended
  same_refused = ap (λ (r : Reading). r.refused) read_same

  -- what streams say by the one they say by the other
  abbrev Says : (System → List Line → Streams → ℕ → Type 0) → Type 0
  Says P = (lines : List Line) (z : Streams) (bound : ℕ) → P s lines z bound → P u lines z bound

  all_other : (P : System → List Line → Streams → ℕ → Type 0) → Says P → InAll s o bytes ended (λ z. P s (lines_in s o bytes ended) z (bound_in s o bytes ended))
      → InAll u o bytes ended (λ z. P u (lines_in u o bytes ended) z (bound_in u o bytes ended))
  all_other P says all = record {
    solved = (all.solved.0, solves_other s u alike o bytes ended all.solved.0 all.solved.1);
    each = λ w ws.
        to_other (λ l b. P u l w b)
        (says (lines_in s o bytes ended) w (bound_in s o bytes ended) (all.each w (solves_other u s (alike_either_way s u alike) o bytes ended w ws)));
  }

  due_other : (text : List ℕ) → IsDue s o bytes ended text → IsDue u o bytes ended text
  due_other text due =
      let all = all_other (λ v l z b. text ≡ due_text v l z b o.instants) (λ l z b is. is ∙ (alike_say_the_same s u l z b o.instants alike).text_same) (record { solved = due.solved; each = due.is }) in
      record { solved = all.solved; is = all.each }

  quiet_other : IsQuiet s o bytes ended → IsQuiet u o bytes ended
  quiet_other = all_other (λ v l z b. EndsAtBound v l z b o.instants) (λ l z b is. (alike_say_the_same s u l z b o.instants alike).bound_same.0 is)

  -- a fault is one of an equation that runs, and so has the same place
  same_at : (i : ℕ) → IsTrue (runs s i) → (place : Place) → IsPlaceOf s i place → IsPlaceOf u i place
  same_at i run place at = record { at = at.at; is = sym (alike.ran_are i run) ∙ at.is; place_is = at.place_is }

  ends_other : (how : RunEnding) → EndsBy s o bytes ended how → EndsBy u o bytes ended how
  ends_other run.Done ends = (ends.0, sym same_refused ∙ ends.1, quiet_other ends.2)
  ends_other (run.Trace fault) ends = (sym same_refused ∙ ends.0, quiet_other ends.1)
  ends_other (run.Fault time kind place) (i, at, faulted) =
      let (z, zs) = faulted.solved in (
        i,
        same_at i (faulted.each z zs).named.running place at,
        all_other (λ v l z b. EndsInFault v l z b o.instants time i kind) (λ l z b is. ((alike_say_the_same s u l z b o.instants alike).fault_same time i kind).0 is) faulted,
      )
  ends_other (run.Limit count time) ends =
      (ends.0, all_other (λ v l z b. EndsAtLimit v l z b o.instants time) (λ l z b is. ((alike_say_the_same s u l z b o.instants alike).limit_same time).0 is) ends.1)

-- code that is read of the spelling of a compiled system's
pub files_run_as_meant : FilesRunAsMeant
files_run_as_meant source items c d o bytes ended compiles form read =
    let like : IsLikeCode c d = one_spelling_is_alike c d form read.spelled.form read.spelled.is in
    let back = alike_either_way c.system d.system like.alike in
    record {
      due = λ text due. due_meant source items c.system o compiles bytes ended text (due_other d.system c.system back o bytes ended text due);
      ends = λ how cause. ends_meant source items c.system o compiles bytes ended how (ends_other d.system c.system back o bytes ended how cause);
    }
