-- A question takes a piece of the trace.
use Rattle.std.proofs.Common.{◌≡◌, ℕ, List, ◌++◌, Option, ◌∙◌, subst}
use Rattle.flat_core.specs.Line.{Line}
use Rattle.flat_core.specs.System.{System}
use Rattle.trace_monitor.specs.declared.ending.RunEnding.{RunEnding}
use Rattle.trace_monitor.specs.declared.options.Options.{Options}
use Rattle.trace_monitor.specs.Next.{IsNext, is_nothing}
use Rattle.trace_reader.specs.inner.Reader.{Reader}
use Rattle.trace_why.specs.inner.Course.{HasRun}
use Rattle.trace_why.specs.inner.Kept.{Kept}
use Rattle.trace_why.specs.inner.Lines.{HasGathered}
use Rattle.trace_why.specs.inner.State.{State}

-- what its run comes to is said of the lines that it has
pub has_run : (m : State) (fed piece : List ℕ) (kept : Kept m fed) (r : Reader) (gathered lines : List Line) (by : Option RunEnding) → lines ≡ gathered
    → HasGathered r m.system m.options.strict m.options.bytes (fed ++ piece) (is_nothing piece) gathered
    → IsNext m.run.system m.run.options (fed ++ piece) (is_nothing piece) by
    → HasRun m.system m.options (fed ++ piece) (is_nothing piece) lines by
has_run m fed piece kept r gathered lines by same has next = record {
  lines_are = same ∙ has.all;
  next = subst (λ (s : System). IsNext s m.options (fed ++ piece) (is_nothing piece) by) kept.system_is
      (subst (λ (o : Options). IsNext m.run.system o (fed ++ piece) (is_nothing piece) by) kept.options_are next);
}
