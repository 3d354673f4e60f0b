-- The lines that are read of a trace have events of their inputs' types.
use Rattle.std.proofs.Common.{◌≡◌, ℕ, Bool, List, subst}
use Rattle.std.specs.Prelude.{IsTrue}
use Rattle.tsl_value.specs.View.{Plain, is_of}
use Rattle.flat_core.specs.declared.equation.Equation.{Equation}
use Rattle.flat_core.specs.Line.{Line}
use Rattle.flat_core.specs.System.{System}
use Rattle.flat_core.specs.inner.TypedLines.{IsTypedLine, AreTypedLines}
use Rattle.flat_core.proofs.Uniqueness.{all_by}
use Rattle.trace_monitor.specs.declared.options.Options.{Options}
use Rattle.trace_monitor.specs.Due.{lines_in}
use Rattle.trace_reader.specs.inner.Laws.{IsProperLine}
use Rattle.trace_reader.proofs.LineLemmas.{reading_proper}

-- what the law of the compiler asks of the lines of a trace
pub typed_read : (s : System) (o : Options) (bytes : List ℕ) (ended : Bool) → AreTypedLines s (lines_in s o bytes ended)
typed_read s o bytes ended = all_by (IsProperLine s) (IsTypedLine s) proper_typed (lines_in s o bytes ended) (reading_proper s o.strict o.bytes bytes ended)
  where
    proper_typed : (l : Line) → IsProperLine s l → IsTypedLine s l
    proper_typed l proper = record {
      event = λ i v at e is.
          let known = proper.event i v at in
          let there = known.is in
          let same : known.at ≡ e = cc in
          subst (λ (f : Equation). IsTrue (is_of f.of (Plain v))) same known.fits;
    }
